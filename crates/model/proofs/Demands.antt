-- A duty's demand, from one arrival to the next.
use Rattle.std.proofs.Common.{◌≡◌, ℕ, ◌+◌, ◌-◌, ◌*◌, ◌/◌, ◌<◌, ◌≤◌, sym, ap, ◌∙◌, ⊎_elim, one-mul, mul-one, arith}
use native.Mathlib.Nat.{div-eq_of_lt}
use Rattle.std.proofs.lemmas.Bool.{cases_lt}
use Rattle.duty.specs.declared.timings.Timing.{Timing}
use Rattle.duty.specs.Demand.{demand}
use Rattle.gauge.specs.Demands.{demand_before, demand_after, demand_spacings}
use Rattle.gauge.specs.Fairness.{Timed}

module _ (d : Timing) (k : Timed d) (t : ℕ) where
  -- a job that arrives at the start is due by t, and the others come a spacing later
  pub demand_next : d.deadline ≤ t → demand d t ≡ d.cost + demand d (t - d.spacing)
  demand_next h =
      ⊎_elim
      (λ (low : t < d.spacing).
      let none : demand d (t - d.spacing) ≡ 0 = demand_before d (t - d.spacing) (omega (arith, k.positive, k.feasible)) in
      let one : (t - d.deadline) / d.spacing ≡ 0 = div-eq_of_lt (omega (arith, k.positive, k.feasible)) in
      let q : d.cost * (1 + (t - d.deadline) / d.spacing) ≡ d.cost = ap (λ (n : ℕ). d.cost * (1 + n)) one ∙ mul-one d.cost in
      omega (arith, none, q, demand_after d t h))
      (λ (high : d.spacing ≤ t).
      let e : t ≡ t - d.spacing + 1 * d.spacing = omega (arith, one-mul d.spacing) in
      omega (arith, ap (demand d) e, demand_spacings d k 1 (t - d.spacing), mul-one d.cost))
      (cases_lt t d.spacing)

  -- it is not due by t, and the others are not either
  pub demand_none : t < d.deadline → demand d t ≡ demand d (t - d.spacing)
  demand_none h = demand_before d t h ∙ sym (demand_before d (t - d.spacing) (omega arith))
