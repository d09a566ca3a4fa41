use Rattle.std.proofs.Common.{◌≡◌, ℕ, ◌+◌, ◌<◌, take, ap, ◌∙◌, arith}
use Rattle.gauge.specs.Each.{each}
use Rattle.model.specs.Steps.{clock_limit}
use Rattle.board_state.specs.Past.{past}
use Rattle.board_state.proofs.Lasting.{past_next}
use Rattle.board_state.proofs.states.State.tick.Goals as goal

pub invariant_of-self : goal.invariant_of-self
invariant_of-self c =
    let s = c.serve.new.self in
    let now = c.args.self.now.clock.ticks in
    let next : (now < clock_limit) × (c.in_ok-next.next.ticks ≡ now + 1) = rw c.in_ok-next.ensures.ok_part at c.next.ensures in
    let one_on : c.in_ok-next.next.ticks ≡ s.clock.ticks + 1 = omega (arith, next.1, c.serve.ensures.clock) in
    record { wide = s.wide; few = s.few; arrived = ap (λ (n : ℕ). each (past n) (take s.count s.places)) one_on ∙ past_next s.clock.ticks (take s.count s.places) s.arrived }
