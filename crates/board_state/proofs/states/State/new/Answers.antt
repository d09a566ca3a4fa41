use Rattle.std.proofs.Common.{arith, List, ap, ◌∙◌, map, take}
use Rattle.std.proofs.lemmas.List.{take-take}
use Rattle.duty.specs.declared.duties.Duty.{Duty}
use Rattle.queue.specs.Places.{places as width}
use Rattle.model.specs.Boards.{loaded}
use Rattle.board_state.specs.BoardOf.{board_of, seating}
use Rattle.board_state.specs.Views.{timing_of}
use Rattle.board_state.proofs.Seating.{seated_more, seated_all}
use Rattle.board_state.proofs.states.State.new.Goals as goal

pub loop-duty-preserved : goal.loop-duty-preserved
loop-duty-preserved c =
    let before = board_of c.loop-duty.state in
    let seated = c.seat.ensures ∙ ap (λ (d : Duty). seating before d.timing) c.duty-item.is in
    seated_more before _ c.loop-duty.duty-index c.loop-duty.invariant _ c.duty-item.result c.loop-duty-test.true seated

pub returns : goal.returns
returns c =
    let start = λ (l : List Duty). loaded (map timing_of l) in
    seated_all _ _ c.loop-duty.duty-index c.loop-duty.invariant c.loop-duty-test.false
    ∙ ap (λ (l : List Duty). start (take width l)) c.first_duties-duty-items.ensures
    ∙ ap start (take-take width width c.args.duties.now (omega arith))
