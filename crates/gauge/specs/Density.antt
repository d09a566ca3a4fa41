-- The density gauge (density test): what the duties ask for in each tick until their deadlines is at most the whole tick.
use Rattle.std.specs.Prelude.{ℕ, ◌+◌, ◌-◌, ◌*◌, ◌/◌, ◌≤◌, Bool, ◌&&◌, List, nat_le}
use Rattle.duty.specs.declared.timings.Timing.{Timing}
use Rattle.duty.specs.Sums.{total}
use Rattle.gauge.specs.Fair.{fair}

-- densities are counted in millionths
abbrev pub whole : ℕ
whole = 1000000

-- cost ÷ deadline in millionths, rounded up
abbrev pub density : Timing → ℕ
density d = (d.cost * whole + (d.deadline - 1)) / d.deadline

-- a fair list whose densities together are at most the whole
abbrev pub density_passed : List Timing → ℕ → Bool
density_passed ds cycle = fair ds cycle && nat_le (total density ds) whole

-- the least number of millionths that cost ÷ deadline does not exceed
pub record RoundedUp (d : Timing) : Type 0 where
  pub enough : d.cost * whole ≤ density d * d.deadline
  pub least : (m : ℕ) → d.cost * whole ≤ m * d.deadline → density d ≤ m

-- each density is the quotient rounded up
abbrev pub DensitiesRoundUp : Type 0
DensitiesRoundUp = (d : Timing) → 1 ≤ d.deadline → RoundedUp d
