-- What the gauges of all letters share.
use Rattle.std.specs.Prelude.{◌≡◌, ℕ, ◌≤◌, true, ◌&&◌, List, [], nat_le, refl}
use Rattle.std.proofs.Common.{arith}
use Rattle.std.proofs.lemmas.Bool.{and_parts, and_from, le-leb}
use Rattle.duty.specs.declared.letters.Letter.{Letter}
use Rattle.duty.specs.declared.letters.Letter.TheVariants.{Density, Slope, Exact}
use Rattle.duty.specs.declared.timings.Timing.{Timing}
use Rattle.duty.specs.Demand.{demands}
use Rattle.duty.specs.Limits.{longest}
use Rattle.gauge.specs.Fair.{fair}
use Rattle.gauge.specs.Exact.{met_at}
use Rattle.gauge.specs.Letters.{letter_passed, CommonGround}
use Rattle.gauge.specs.Cycles.{exact_decides}
use Rattle.gauge.specs.Dense.{density_bounded}
use Rattle.gauge.specs.Eaches.{each_to_from}
use Rattle.gauge.specs.Slopes.{slope_bounded}

only_fair : (letter : Letter) (ds : List Timing) (cycle : ℕ) → letter_passed letter ds cycle ≡ true → fair ds cycle ≡ true
only_fair Density ds cycle e = (and_parts (fair ds cycle) _ e).0
only_fair Slope ds cycle e = (and_parts (fair ds cycle) _ e).0
only_fair Exact ds cycle e = (and_parts (fair ds cycle) _ e).0

empty_fair : (cycle : ℕ) → 1 ≤ cycle → cycle ≤ longest → fair [] cycle ≡ true
empty_fair cycle low high =
    and_from (nat_le 1 cycle && nat_le cycle longest) true (and_from (nat_le 1 cycle) (nat_le cycle longest) (le-leb _ _ low) (le-leb _ _ high)) refl

empty : (letter : Letter) (cycle : ℕ) → 1 ≤ cycle → cycle ≤ longest → letter_passed letter [] cycle ≡ true
empty Density cycle low high = and_from (fair [] cycle) _ (empty_fair cycle low high) refl
empty Slope cycle low high = and_from (fair [] cycle) _ (empty_fair cycle low high) refl
empty Exact cycle low high =
    and_from (fair [] cycle) _ (empty_fair cycle low high) (each_to_from (met_at []) cycle (λ t a b. le-leb _ _ (omega arith)))

pub common_ground : CommonGround
common_ground = record { only_fair = only_fair; empty = empty }

-- what the gauge of a letter passes keeps the law of gauges
pub letter_bounded : (letter : Letter) (ds : List Timing) (cycle : ℕ) → letter_passed letter ds cycle ≡ true → (t : ℕ) → demands ds t ≤ t
letter_bounded Density = density_bounded
letter_bounded Slope = slope_bounded
letter_bounded Exact = exact_decides.only
