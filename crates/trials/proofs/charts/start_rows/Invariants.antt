use Rattle.std.proofs.Common.{◌≡◌, length, min, take}
use Rattle.boards.specs.Lists.{on_board}
use Rattle.trials.proofs.charts.start_rows.Given as goal

abbrev pub invariant-loop-record : goal.invariant-loop-record
invariant-loop-record l = l.count ≡ min (length (on_board l.board (take l.record-index l.records))) (length l.rows)
