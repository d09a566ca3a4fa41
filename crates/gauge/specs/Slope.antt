-- The slope gauge: the demand of each duty is replaced by a line above it (linear approximation: one step, then a line).
use Rattle.std.specs.Prelude.{◌≡◌, ℕ, ◌+◌, ◌-◌, ◌*◌, ◌/◌, ◌≤◌, Bool, true, cond, ◌&&◌, List, nat_le, nat_lt}
use Rattle.duty.specs.declared.timings.Timing.{Timing}
use Rattle.duty.specs.Sums.{total}
use Rattle.gauge.specs.Each.{each}
use Rattle.gauge.specs.Fair.{fair}

-- what a duty can cost in a cycle
abbrev pub rate : ℕ → Timing → ℕ
rate cycle d = d.cost * (cycle / d.spacing)

-- a duty's line at t, times the cycle: nothing before its deadline, there its cost, and from then on its rate in a cycle
abbrev pub slope_at : ℕ → ℕ → Timing → ℕ
slope_at cycle t d = cond (nat_lt t d.deadline) 0 (d.cost * cycle + rate cycle d * (t - d.deadline))

-- the lines of a list at t, added up, times the cycle
abbrev pub slope_sum : List Timing → ℕ → ℕ → ℕ
slope_sum ds cycle t = total (slope_at cycle t) ds

-- the sum at t is at most t, times the cycle
abbrev pub below_at : List Timing → ℕ → ℕ → Bool
below_at ds cycle t = nat_le (slope_sum ds cycle t) (t * cycle)

-- the sum at each deadline of the list is at most that deadline, times the cycle
abbrev pub all_below : List Timing → ℕ → Bool
all_below ds cycle = each (λ d. below_at ds cycle d.deadline) ds

-- a fair list whose sum is at most t at each deadline t
abbrev pub slope_passed : List Timing → ℕ → Bool
slope_passed ds cycle = fair ds cycle && all_below ds cycle

-- the duties of a list that slope passes cost at most the cycle in a cycle
abbrev pub RatesBounded : Type 0
RatesBounded = (ds : List Timing) (cycle : ℕ) → slope_passed ds cycle ≡ true → total (rate cycle) ds ≤ cycle
