use Rattle.std.proofs.Common.{refl, ap, ◌∙◌}
use Rattle.model.specs.Steps.{Outcome}
use Rattle.board_state.specs.BoardOf.{board_of}
use Rattle.board.proofs.Settling.{settled_tick, ticks, foremost_ran}
use Rattle.board.proofs.running.RunningBoard.tick.Goals as goal

pub invariant_of-self-in-Some : goal.invariant_of-self-in-Some
invariant_of-self-in-Some g c =
    let before = c.args.self.now in
    let done = c.in_ok-ran.ensures in
    record { in_step = settled_tick (board_of before.state) _ before.in_step _ _ c.in-Some.is _ done.answer refl _ done.board _ c.settle.ensures }

pub returns-in-Some : goal.returns-in-Some
returns-in-Some g c =
    let before = c.args.self.now in
    let done = c.in_ok-ran.ensures in
    let told = c.first-first.ensures.answer in
    let step = ticks (board_of before.state) _ before.in_step _ told in
    record {
      called = record { answer_is = done.answer ∙ ap (λ (o : Outcome). o.answer) step; board_is = done.board ∙ ap (λ (o : Outcome). o.board) step };
      relation = foremost_ran (board_of before.state) _ before.in_step _ told _ done.answer;
    }

pub returns-in_default : goal.returns-in_default
returns-in_default g c =
    let before = c.args.self.now in
    let done = c.in_ok-ran.ensures in
    let told = c.first-first.ensures.answer in
    let step = ticks (board_of before.state) _ before.in_step _ told in
    record {
      called = record { answer_is = done.answer ∙ ap (λ (o : Outcome). o.answer) step; board_is = done.board ∙ ap (λ (o : Outcome). o.board) step };
      relation = foremost_ran (board_of before.state) _ before.in_step _ told _ done.answer;
    }
