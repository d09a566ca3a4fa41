use Rattle.std.proofs.Common.{◌≡◌, ◌≤◌, ◌++◌, length, take, drop}
use Rattle.boards.specs.Lists.{on_board}
use Rattle.boards.proofs.add.Given as goal

abbrev pub invariant-loop-record : goal.invariant-loop-record
invariant-loop-record l =
    (l.n ≤ length l.list) × (take l.n l.list ++ on_board l.board (drop l.record-index l.records) ≡ take l.from l.initial.list ++ on_board l.board l.records)
