use Rattle.std.proofs.Common.{◌≤◌, map, length, take, sym, ap, ◌∙◌, arith, length-take}
use lib.ListN.{length-map}
use Rattle.queue.specs.Places.{places as width}
use Rattle.model.specs.Boards.{Board, dues}
use Rattle.model.specs.Queues.{padded}
use Rattle.model.proofs.Queueing.{padded_cancelled}
use Rattle.board_state.specs.BoardOf.{board_of}
use Rattle.board_state.specs.Views.{seen}
use Rattle.board.proofs.running.RunningBoard.general_cancel.Goals as goal

pub invariant_of-self : goal.invariant_of-self
invariant_of-self g c =
    let s = c.args.self.now.state in
    let few : length (take s.count s.places) ≤ width = simp length-take (omega (arith, s.few, s.wide)) in
    let few' : length (map seen (take s.count s.places)) ≤ width = omega (arith, few, length-map (take s.count s.places) seen) in
    record { in_step = c.clear.ensures ∙ sym (padded_cancelled s.clock.ticks (board_of s).places few') ∙ ap (λ (x : Board). padded width (dues x.places)) (sym c.general_cancel-ended.ensures.board) }
