use Rattle.std.proofs.Common.{ap, ◌∙◌, get_or}
use Rattle.boards.specs.Lists.{no_record}
use Rattle.board_state.specs.BoardOf.{board_of}
use Rattle.board.proofs.Gathering.{some_duty, gathers, passes}
use Rattle.board.proofs.loads.gather.Goals as goal
use Rattle.board.proofs.loads.gather.Goals.{then-record-board+in-Some, then-record-board+in_default, else-record-board}

pub loop-record-preserved : goal.loop-record-preserved
loop-record-preserved c =
    let rs = c.args.records.now in
    let b = c.args.board in
    let l = c.loop-record in
    let i = l.record-index in
    let more = c.loop-record-test.true in
    elim c.if-record-board.branch [
      | then-record-board+in-Some w ↦ ap board_of w.state-is ∙ w.seat.ensures ∙ gathers rs b i more (board_of l.state) l.invariant w.in-Some.duty w.if-record-board.true (c.requires i more) w.in-Some.ensures
      | then-record-board+in_default w ↦ absurd (some_duty (get_or rs i no_record) (c.requires i more) w.in_default.ensures)
      | else-record-board w ↦ ap board_of w.state-is ∙ passes rs b i more (board_of l.state) l.invariant w.if-record-board.false
    ]
