-- Worked figures: the demand of a duty, what each gauge says of some short lists, and what a board answers.
use Rattle.std.specs.Prelude.{◌≡◌, ℕ, ◌*◌, Bool, true, false, List, [], ◌∷◌, map}
use Rattle.duty.specs.declared.timings.Timing.{Timing}
use Rattle.duty.specs.Demand.{demand}
use Rattle.duty.specs.Sums.{total}
use Rattle.gauge.specs.Density.{density, density_passed}
use Rattle.gauge.specs.Exact.{exact_passed}
use Rattle.gauge.specs.Slope.{slope_sum, slope_passed}
use Rattle.figures.specs.Duties.{timing, cycle}
use Rattle.figures.specs.Boards.{BoardFigures}

-- two duties, and a third beside them
abbrev pub pair : List Timing
pair = timing 2 5 10 ∷ timing 3 6 12 ∷ []

abbrev pub trio : List Timing
trio = timing 2 5 10 ∷ timing 3 6 12 ∷ timing 2 8 20 ∷ []

-- a duty that takes every tick
abbrev pub busy : Timing
busy = timing 1 1 1

-- density, slope and exact, in this order
abbrev pub verdicts : List Timing → ℕ → List Bool
verdicts ds n = density_passed ds n ∷ slope_passed ds n ∷ exact_passed ds n ∷ []

pub record Figures : Type 0 where
  -- the demand of (2, 5, 10) up to 4, 5, 14 and 15
  pub demands_of_one : map (demand (timing 2 5 10)) (4 ∷ 5 ∷ 14 ∷ 15 ∷ []) ≡ 0 ∷ 2 ∷ 2 ∷ 4 ∷ []
  -- slope passes the pair: at 6 its sum is 624 against 720
  pub pair_at_six : slope_sum pair cycle 6 ≡ 624
  pub limit_at_six : 6 * cycle ≡ 720
  pub pair_passes : slope_passed pair cycle ≡ true
  -- and fails the trio: at 8 its sum is 972 against 960
  pub trio_at_eight : slope_sum trio cycle 8 ≡ 972
  pub limit_at_eight : 8 * cycle ≡ 960
  pub trio_fails : slope_passed trio cycle ≡ false
  -- which exact passes, while its densities are together 1,150,000 millionths
  pub trio_exact : exact_passed trio cycle ≡ true
  pub trio_densities : total density trio ≡ 1150000
  pub trio_dense : density_passed trio cycle ≡ false
  -- one duty that takes every tick passes all gauges, and two of it none
  pub one_busy : verdicts (busy ∷ []) 1 ≡ true ∷ true ∷ true ∷ []
  pub two_busy : verdicts (busy ∷ busy ∷ []) 1 ≡ false ∷ false ∷ false ∷ []
  -- what a board of three duties answers, call by call
  pub boards : BoardFigures
