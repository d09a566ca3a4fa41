-- The header's letter as a gauge.
use Rattle.std.specs.Prelude.{◌≡◌, ℕ, ◌≤◌, Bool, true, List, []}
use Rattle.duty.specs.declared.letters.Letter.{Letter}
use Rattle.duty.specs.declared.letters.Letter.TheVariants.{Density, Slope, Exact}
use Rattle.duty.specs.declared.timings.Timing.{Timing}
use Rattle.duty.specs.Limits.{longest}
use Rattle.gauge.specs.Fair.{fair}
use Rattle.gauge.specs.Density.{density_passed}
use Rattle.gauge.specs.Slope.{slope_passed}
use Rattle.gauge.specs.Exact.{exact_passed}

-- what the gauge of that letter passes
abbrev pub letter_passed : Letter → List Timing → ℕ → Bool
letter_passed Density ds cycle = density_passed ds cycle
letter_passed Slope ds cycle = slope_passed ds cycle
letter_passed Exact ds cycle = exact_passed ds cycle

-- what all letters share: only fair lists pass, and the empty list passes at every cycle from 1 to 1,000,000
pub record CommonGround : Type 0 where
  pub only_fair : (letter : Letter) (ds : List Timing) (cycle : ℕ) → letter_passed letter ds cycle ≡ true → fair ds cycle ≡ true
  pub empty : (letter : Letter) (cycle : ℕ) → 1 ≤ cycle → cycle ≤ longest → letter_passed letter [] cycle ≡ true
