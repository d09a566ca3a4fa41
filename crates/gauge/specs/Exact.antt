-- The exact gauge (processor demand criterion): the demand up to t is at most t.
use Rattle.std.specs.Prelude.{◌≡◌, ℕ, ◌≤◌, Bool, true, ◌&&◌, List, nat_le}
use Rattle.duty.specs.declared.timings.Timing.{Timing}
use Rattle.duty.specs.Demand.{demands}
use Rattle.gauge.specs.Each.{each_to}
use Rattle.gauge.specs.Fair.{fair}

-- the demand up to t is at most t
abbrev pub met_at : List Timing → ℕ → Bool
met_at ds t = nat_le (demands ds t) t

-- a fair list whose demand up to t is at most t, for each t from 1 to the cycle
abbrev pub exact_passed : List Timing → ℕ → Bool
exact_passed ds cycle = fair ds cycle && each_to (met_at ds) cycle

-- of a fair list, the instants from 1 to the cycle decide every t
abbrev pub CycleDecides : Type 0
CycleDecides =
    (ds : List Timing) (cycle : ℕ) → fair ds cycle ≡ true →
    ((t : ℕ) → 1 ≤ t → t ≤ cycle → demands ds t ≤ t) → (t : ℕ) → demands ds t ≤ t

-- exact passes a fair list just where the demand up to t is at most t for every t
pub record ExactDecides : Type 0 where
  pub only : (ds : List Timing) (cycle : ℕ) → exact_passed ds cycle ≡ true → (t : ℕ) → demands ds t ≤ t
  pub back : (ds : List Timing) (cycle : ℕ) → fair ds cycle ≡ true → ((t : ℕ) → demands ds t ≤ t) → exact_passed ds cycle ≡ true
