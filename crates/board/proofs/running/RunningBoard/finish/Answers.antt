use Rattle.std.proofs.Common.{refl}
use Rattle.board_state.specs.BoardOf.{board_of}
use Rattle.board.proofs.Settling.{settled, finish_keeps}
use Rattle.board.proofs.running.RunningBoard.finish.Goals as goal

pub invariant_of-self-2 : goal.invariant_of-self-2
invariant_of-self-2 g c =
    let before = c.args.self.now in
    let b = board_of before.state in
    let done = c.in_ok-units.ensures in
    record { in_step = settled b _ before.in_step _ c.args.place (finish_keeps b c.args.place) _ done.answer refl _ done.board _ c.settle.ensures }
