use Rattle.std.proofs.Common.{◌≡◌, ◌≤◌, ◌++◌, length, take}
use Rattle.boards.specs.Lists.{on_board}
use Rattle.boards.proofs.collect.Given as goal

abbrev pub invariant-loop-block : goal.invariant-loop-block
invariant-loop-block l =
    (l.n ≤ length l.list) × (take l.n l.list ++ on_board l.board l.left ≡ on_board l.board l.records)

abbrev pub decreases-loop-block : goal.decreases-loop-block
decreases-loop-block l = length l.left
