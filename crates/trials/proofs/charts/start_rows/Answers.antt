use Rattle.std.proofs.Common.{arith}
use Rattle.trials.proofs.Counts.{one_on, none_on}
use Rattle.trials.proofs.charts.start_rows.Goals as goal
use Rattle.trials.proofs.charts.start_rows.Goals.{then-record-board+then-count-rows, else-record-board, else-record-board-via-then-record-board+else-count-rows, else-record-board-via-else-record-board}

pub loop-record-preserved : goal.loop-record-preserved
loop-record-preserved c =
    let l = c.loop-record in
    let more = one_on c.args.board l.record-index c.args.records.now _ c.loop-record-test.true in
    let same = none_on c.args.board l.record-index c.args.records.now _ c.loop-record-test.true in
    elim c.if-record-board.branch [
      | then-record-board+then-count-rows w ↦ omega (arith, l.invariant, w.count-is, c.if-record-board.auto.rows, w.if-count-rows.true, more w.if-record-board.true)
      | else-record-board w ↦ elim w.else-record-board.branch [
        | else-record-board-via-then-record-board+else-count-rows w' ↦ omega (arith, l.invariant, w.count-is, c.if-record-board.auto.rows, w'.if-count-rows.false, more w'.if-record-board.true)
        | else-record-board-via-else-record-board w' ↦ omega (arith, l.invariant, w.count-is, c.if-record-board.auto.rows, same w'.if-record-board.false)
      ]
    ]
