-- The demand of one duty, and what it keeps.
use Rattle.std.specs.Prelude.{◌≡◌, ℕ, zero, suc, ◌+◌, ◌-◌, ◌*◌, ◌/◌, ◌^◌, ◌<◌, ◌≤◌, true, List, [], ◌∷◌, length, nat_lt}
use Rattle.std.proofs.Common.{⊎_elim, ap, ◌∙◌, mul-le-mul, mul-le-mul_left, mul-le-mul_right, mul_comm, mul_assoc, add-mul, one-mul, zero-mul, mul-zero, mul-suc, suc-mul, div-mul-le_self, le-div_iff_mul-le, le_trans, le_of_mul-le-mul_right, arith}
use Rattle.std.proofs.Math.Nat.{div-eq_of_lt, add-div_right, div-zero}
use Rattle.std.specs.List.{AllByRecursion}
use Rattle.std.proofs.ByRecursion.{All-weaker}
use Rattle.std.proofs.lemmas.Bool.{cond-true, cond-false, lt-ltb, le-ltb, cases_lt}
use Rattle.duty.specs.declared.timings.Timing.{Timing}
use Rattle.duty.specs.Demand.{demand, demands}
use Rattle.duty.specs.Limits.{most_duties}
use Rattle.duty.specs.Timely.{timely}
use Rattle.gauge.specs.Totals.{total_le, total_most}
use Rattle.gauge.specs.Each.{each}
use Rattle.gauge.specs.Fairness.{Timed, all_timed}

module _ (d : Timing) (t : ℕ) where
  -- how many jobs that arrive from an instant on are due within t ticks of it, where any is
  abbrev pub jobs : ℕ
  jobs = 1 + (t - d.deadline) / d.spacing

  pub demand_before : t < d.deadline → demand d t ≡ 0
  unfolding demand
  demand_before h = cond-true (nat_lt t d.deadline) 0 (d.cost * jobs) (lt-ltb t d.deadline h)

  pub demand_after : d.deadline ≤ t → demand d t ≡ d.cost * jobs
  unfolding demand
  demand_after h = cond-false (nat_lt t d.deadline) 0 (d.cost * jobs) (le-ltb t d.deadline h)

  jobs_fit : Timed d → d.deadline ≤ t → jobs * d.deadline ≤ t
  jobs_fit k h =
      let x = (t - d.deadline) / d.spacing in
      let a : x * d.deadline ≤ x * d.spacing = mul-le-mul_left x k.constrained in
      omega (arith, add-mul 1 x d.deadline, one-mul d.deadline, div-mul-le_self (t - d.deadline) d.spacing)

  -- each of these jobs, counted from 0, is due by t
  pub jobs_due : Timed d → d.deadline ≤ t → (k : ℕ) → k < jobs → k * d.spacing + d.deadline ≤ t
  jobs_due w h k within =
      let some : 0 < d.spacing = omega (arith, w.positive, w.feasible, w.constrained) in
      omega (arith, (le-div_iff_mul-le {k = d.spacing} {x = k} {y = t - d.deadline} some).0 (omega arith))

  -- the demand grows at most as cost ÷ deadline
  pub demand_dense : Timed d → demand d t * d.deadline ≤ d.cost * t
  demand_dense k =
      ⊎_elim
      (λ h. omega (arith, ap (λ (n : ℕ). n * d.deadline) (demand_before h), zero-mul d.deadline))
      (λ h.
      let a : d.cost * (jobs * d.deadline) ≤ d.cost * t = mul-le-mul_left d.cost (jobs_fit k h) in
      omega (arith, ap (λ (n : ℕ). n * d.deadline) (demand_after h), mul_assoc d.cost jobs d.deadline))
      (cases_lt t d.deadline)

  -- one duty alone never asks for more than there is
  pub demand_alone : Timed d → demand d t ≤ t
  demand_alone k =
      let a : d.cost * t ≤ d.deadline * t = mul-le-mul_right t k.feasible in
      le_of_mul-le-mul_right {m = demand d t} {n = t} {k = d.deadline} (omega (arith, demand_dense k, mul_comm d.deadline t)) (omega (arith, k.positive, k.feasible))

div_grows : (a b s : ℕ) → a ≤ b → a / s ≤ b / s
div_grows a b zero h = omega (arith, div-zero a, div-zero b)
div_grows a b (suc s) h = (le-div_iff_mul-le {k = suc s} {x = a / suc s} {y = b} (omega arith)).1 (le_trans (div-mul-le_self a (suc s)) h)

pub demand_grows : (d : Timing) (s t : ℕ) → s ≤ t → demand d s ≤ demand d t
demand_grows d s t le =
    ⊎_elim
    (λ h. omega (arith, demand_before d s h))
    (λ h.
    let q : (s - d.deadline) / d.spacing ≤ (t - d.deadline) / d.spacing = div_grows (s - d.deadline) (t - d.deadline) d.spacing (omega arith) in
    let m : d.cost * jobs d s ≤ d.cost * jobs d t = mul-le-mul_left d.cost (omega arith) in
    omega (arith, demand_after d s h, demand_after d t (omega arith)))
    (cases_lt s d.deadline)

-- one spacing later there is one job more
demand_spacing : (d : Timing) (t : ℕ) → Timed d → demand d (t + d.spacing) ≡ demand d t + d.cost
demand_spacing d t k =
    let s = d.spacing in
    let c = d.cost in
    let some : 0 < s = omega (arith, k.positive, k.feasible, k.constrained) in
    let later = demand_after d (t + s) (omega (arith, k.constrained)) in
    ⊎_elim
    (λ h.
    let q : (t + s - d.deadline) / s ≡ 0 = div-eq_of_lt (omega (arith, k.constrained)) in
    later ∙ ap (λ (n : ℕ). c * (1 + n)) q ∙ omega (arith, demand_before d t h))
    (λ h.
    let x = (t - d.deadline) / s in
    let q : (t + s - d.deadline) / s ≡ x + 1 = ap (λ (n : ℕ). n / s) (apart t s d.deadline h) ∙ add-div_right (t - d.deadline) some in
    later ∙ ap (λ (n : ℕ). c * (1 + n)) q ∙ one_more c x ∙ omega (arith, demand_after d t h))
    (cases_lt t d.deadline)
  where
    one_more : (c x : ℕ) → c * (1 + (x + 1)) ≡ c * (1 + x) + c
    one_more c x = ap (λ (n : ℕ). c * n) (suc_last x) ∙ mul-suc c (1 + x)
      where
        suc_last : (x : ℕ) → 1 + (x + 1) ≡ suc (1 + x)
        suc_last x = omega arith

    apart : (t s e : ℕ) → e ≤ t → t + s - e ≡ (t - e) + s
    apart t s e h = omega arith

-- and k spacings later, k jobs
pub demand_spacings : (d : Timing) → Timed d → (k t : ℕ) → demand d (t + k * d.spacing) ≡ demand d t + d.cost * k
demand_spacings d w zero t = ap (demand d) (at t d.spacing) ∙ omega (arith, mul-zero d.cost)
  where
    at : (t s : ℕ) → t + 0 * s ≡ t
    at t s = omega (arith, zero-mul s)
demand_spacings d w (suc k) t =
    ap (demand d) (at t k d.spacing) ∙ omega (arith, demand_spacings d w k (t + d.spacing), demand_spacing d t w, mul-suc d.cost k)
  where
    at : (t k s : ℕ) → t + suc k * s ≡ (t + s) + k * s
    at t k s = omega (arith, suc-mul k s)

pub demands_grow : (ds : List Timing) (s t : ℕ) → s ≤ t → demands ds s ≤ demands ds t
demands_grow ds s t le = total_le (λ d. demand d s) (λ d. demand d t) ds (every ds)
  where
    every : (ds : List Timing) → AllByRecursion (λ d. demand d s ≤ demand d t) ds
    every [] = tt
    every (d ∷ ds) = (demand_grows d s t le, every ds)

-- a few duties ask for little
pub demands_fit : (ds : List Timing) (t : ℕ) → length ds ≤ most_duties → each timely ds ≡ true → t < 2 ^ 32 → demands ds t < 2 ^ 64
demands_fit ds t few e near =
    let alone = All-weaker Timed (λ d. demand d t ≤ t) (λ d k. demand_alone d t k) ds (all_timed ds e) in
    let most : demands ds t ≤ length ds * t = total_most (λ d. demand d t) t ds alone in
    let little : length ds * t ≤ most_duties * 2 ^ 32 = mul-le-mul {m₂ = 2 ^ 32} few (omega arith) in
    omega (arith, most, little)
