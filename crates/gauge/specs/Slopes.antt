-- The slope gauge keeps the law: the lines are above the demand, and stay below the time.
use Rattle.std.specs.Prelude.{◌≡◌, ℕ, zero, suc, ◌+◌, ◌-◌, ◌*◌, ◌/◌, ◌^◌, ◌<◌, ◌≤◌, true, ◌⊎◌, List, [], ◌∷◌, length, ◌≢◌, nat_lt}
use Rattle.std.proofs.Common.{inl, inr, ⊎_elim, sym, ap, ◌∙◌, mul-le-mul, mul-le-mul_left, mul-le-mul_right, mul_comm, mul_assoc, mul-add, mul-suc, mul-zero, add-mul, zero-mul, suc-mul, div-mul-le_self, le_of_mul-le-mul_right, arith}
use Rattle.std.specs.List.{AllByRecursion}
use Rattle.std.proofs.ByRecursion.{All-weaker}
use Rattle.std.proofs.lemmas.Bool.{and_parts, leb-true, cond-true, cond-false, lt-ltb, le-ltb, cases_lt, cases_eq}
use Rattle.duty.specs.declared.timings.Timing.{Timing}
use Rattle.duty.specs.Demand.{demand, demands}
use Rattle.duty.specs.Limits.{longest, most_duties}
use Rattle.duty.specs.Sums.{total}
use Rattle.gauge.specs.Fair.{fair}
use Rattle.gauge.specs.Slope.{rate, slope_at, slope_sum, below_at, all_below, slope_passed, RatesBounded}
use Rattle.gauge.specs.Totals.{total_le, total_plus, total_times, total_most}
use Rattle.gauge.specs.Eaches.{all_from_each}
use Rattle.gauge.specs.Fairness.{Fair, FairList, fair_list}
use Rattle.gauge.specs.Demands.{demand_before, demand_after}

-- One duty's line.
module _ (cycle : ℕ) (d : Timing) where
  pub slope_before : (t : ℕ) → t < d.deadline → slope_at cycle t d ≡ 0
  slope_before t h = cond-true (nat_lt t d.deadline) 0 (d.cost * cycle + rate cycle d * (t - d.deadline)) (lt-ltb t d.deadline h)

  pub slope_after : (t : ℕ) → d.deadline ≤ t → slope_at cycle t d ≡ d.cost * cycle + rate cycle d * (t - d.deadline)
  slope_after t h = cond-false (nat_lt t d.deadline) 0 (d.cost * cycle + rate cycle d * (t - d.deadline)) (le-ltb t d.deadline h)

  -- a cost in each spacing is the rate in a cycle
  module _ (f : Fair cycle d) where
    cost_cycle : d.cost * cycle ≡ rate cycle d * d.spacing
    cost_cycle = ap (λ (n : ℕ). d.cost * n) (sym f.rounds) ∙ sym (mul_assoc d.cost (cycle / d.spacing) d.spacing)

    -- the line is above the demand
    slope_above : (t : ℕ) → demand d t * cycle ≤ slope_at cycle t d
    slope_above t =
        ⊎_elim
        (λ h. omega (arith, ap (λ (n : ℕ). n * cycle) (demand_before d t h), zero-mul cycle))
        (λ h.
        let c = d.cost in
        let y = t - d.deadline in
        let x = y / d.spacing in
        let whole : c * (1 + x) * cycle ≡ c * cycle + c * cycle * x = jobs_cycle c x cycle in
        let part : c * cycle * x ≡ rate cycle d * (x * d.spacing) = ap (λ (n : ℕ). n * x) cost_cycle ∙ mul_assoc (rate cycle d) d.spacing x ∙ ap (λ (n : ℕ). rate cycle d * n) (mul_comm d.spacing x) in
        let under : rate cycle d * (x * d.spacing) ≤ rate cycle d * y = mul-le-mul_left (rate cycle d) (div-mul-le_self y d.spacing) in
        omega (arith, ap (λ (n : ℕ). n * cycle) (demand_after d t h), slope_after t h))
        (cases_lt t d.deadline)
      where
        jobs_cycle : (c x n : ℕ) → c * (1 + x) * n ≡ c * n + c * n * x
        jobs_cycle c x n =
            omega (arith, ap (λ (k : ℕ). k * n) (mul-add c 1 x), add-mul (c * 1) (c * x) n, mul_assoc c x n, ap (λ (k : ℕ). c * k) (mul_comm x n), mul_assoc c n x)

    -- from its deadline on, the line is at least as steep as from the start
    slope_steep : (t : ℕ) → d.deadline ≤ t → rate cycle d * t ≤ slope_at cycle t d
    slope_steep t h =
        let k = rate cycle d in
        let early : k * d.deadline ≤ k * d.spacing = mul-le-mul_left k f.is.constrained in
        let split : k * (d.deadline + (t - d.deadline)) ≡ k * d.deadline + k * (t - d.deadline) = mul-add k d.deadline (t - d.deadline) in
        let there : d.deadline + (t - d.deadline) ≡ t = omega arith in
        omega (arith, slope_after t h, cost_cycle, ap (λ (n : ℕ). k * n) there)

    -- but at its deadline, a line rises by at most its rate a tick
    slope_tick : (t : ℕ) → (d.deadline ≢ suc t) → slope_at cycle (suc t) d ≤ slope_at cycle t d + rate cycle d
    slope_tick t other =
        ⊎_elim
        (λ h. omega (arith, slope_before (suc t) (past t d.deadline h other)))
        (λ h.
        let k = rate cycle d in
        let next : k * (suc t - d.deadline) ≡ k * (t - d.deadline) + k = ap (λ (n : ℕ). k * n) (one_more t d.deadline h) ∙ mul-suc k (t - d.deadline) in
        omega (arith, slope_after t h, slope_after (suc t) (omega arith)))
        (cases_lt t d.deadline)
      where
        past : (t e : ℕ) → t < e → (e ≢ suc t) → suc t < e
        past t e h other = omega arith

        one_more : (t e : ℕ) → e ≤ t → suc t - e ≡ suc (t - e)
        one_more t e h = omega arith

    slope_start : slope_at cycle 0 d ≡ 0
    slope_start = slope_before 0 (omega (arith, f.is.positive, f.is.feasible))

    -- a duty costs at most the cycle in a cycle
    rate_most : rate cycle d ≤ cycle
    rate_most =
        let k = cycle / d.spacing in
        let l : d.cost * k ≤ d.spacing * k = mul-le-mul_right k (omega (arith, f.is.feasible, f.is.constrained)) in
        omega (arith, mul_comm d.spacing k, f.rounds)

    slope_most : (t : ℕ) → cycle ≤ longest → slope_at cycle t d ≤ longest * longest + longest * t
    slope_most t short =
        ⊎_elim
        (λ h. omega (arith, slope_before t h))
        (λ h.
        let a : d.cost * cycle ≤ longest * longest = mul-le-mul {n₂ = longest} {m₂ = longest} (omega (arith, f.is.feasible, f.is.constrained, f.is.bounded)) short in
        let b : rate cycle d * (t - d.deadline) ≤ longest * t = mul-le-mul {n₂ = longest} {m₂ = t} (omega (arith, rate_most)) (omega arith) in
        omega (arith, slope_after t h))
        (cases_lt t d.deadline)

-- The lines of a list.
module _ (ds : List Timing) (cycle : ℕ) where
  slopes_above : AllByRecursion (Fair cycle) ds → (t : ℕ) → demands ds t * cycle ≤ slope_sum ds cycle t
  slopes_above h t =
      let each = All-weaker (Fair cycle) (λ d. demand d t * cycle ≤ slope_at cycle t d) (λ d f. slope_above cycle d f t) ds h in
      omega (arith, total_le (λ d. demand d t * cycle) (slope_at cycle t) ds each, total_times (λ d. demand d t) cycle ds)

  slopes_steep : (t : ℕ) → AllByRecursion (λ d. Fair cycle d × (d.deadline ≤ t)) ds → total (rate cycle) ds * t ≤ slope_sum ds cycle t
  slopes_steep t h =
      let each = All-weaker (λ d. Fair cycle d × (d.deadline ≤ t)) (λ d. rate cycle d * t ≤ slope_at cycle t d) (λ d k. slope_steep cycle d k.0 t k.1) ds h in
      omega (arith, total_le (λ d. rate cycle d * t) (slope_at cycle t) ds each, total_times (rate cycle) t ds)

  slopes_tick : (t : ℕ) → AllByRecursion (λ d. Fair cycle d × (d.deadline ≢ suc t)) ds → slope_sum ds cycle (suc t) ≤ slope_sum ds cycle t + total (rate cycle) ds
  slopes_tick t h =
      let each = All-weaker (λ d. Fair cycle d × (d.deadline ≢ suc t)) (λ d. slope_at cycle (suc t) d ≤ slope_at cycle t d + rate cycle d) (λ d k. slope_tick cycle d k.0 t k.1) ds h in
      omega (arith, total_le (slope_at cycle (suc t)) (λ d. slope_at cycle t d + rate cycle d) ds each, total_plus (slope_at cycle t) (rate cycle) ds)

  slopes_start : AllByRecursion (Fair cycle) ds → slope_sum ds cycle 0 ≤ 0
  slopes_start h =
      let each = All-weaker (Fair cycle) (λ d. slope_at cycle 0 d ≤ 0) (λ d f. omega (arith, slope_start cycle d f)) ds h in
      omega (arith, total_most (slope_at cycle 0) 0 ds each, mul-zero (length ds))

  pub slopes_fit : FairList ds cycle → (t : ℕ) → t < 2 ^ 32 → slope_sum ds cycle t < 2 ^ 64
  slopes_fit w t near =
      let most = longest * longest + longest * 2 ^ 32 in
      let each = All-weaker (Fair cycle) (λ d. slope_at cycle t d ≤ most) (λ d f. omega (arith, slope_most cycle d f t w.short)) ds w.each_fair in
      let few : length ds * most ≤ most_duties * most = mul-le-mul_right most w.few in
      omega (arith, total_most (slope_at cycle t) most ds each, few)

-- The last deadline of a list, or 0: what holds of 0 and of each deadline holds of it.
record Last (ds : List Timing) (P : ℕ → Type 0) : Type 0 where
  instant : ℕ
  past : AllByRecursion (λ d. d.deadline ≤ instant) ds
  holds : P instant

later : (ds : List Timing) (s t : ℕ) → s ≤ t → AllByRecursion (λ d. d.deadline ≤ s) ds → AllByRecursion (λ d. d.deadline ≤ t) ds
later ds s t le = All-weaker (λ d. d.deadline ≤ s) (λ d. d.deadline ≤ t) (λ d h. omega arith) ds

last_deadline : (ds : List Timing) (P : ℕ → Type 0) → P 0 → AllByRecursion (λ d. P d.deadline) ds → Last ds P
last_deadline [] P z h = record { instant = 0; past = tt; holds = z }
last_deadline (d ∷ ds) P z h =
    let l = last_deadline ds P z h.1 in
    ⊎_elim
    (λ before. record { instant = d.deadline; past = (omega arith, later ds l.instant d.deadline (omega arith) l.past); holds = h.0 })
    (λ after. record { instant = l.instant; past = (after, l.past); holds = l.holds })
    (cases_lt l.instant d.deadline)

-- what slope's passing says, as orders of numbers
record Passed (ds : List Timing) (cycle : ℕ) : Type 0 where
  is_fair : FairList ds cycle
  below : AllByRecursion (λ d. slope_sum ds cycle d.deadline ≤ d.deadline * cycle) ds

passed : (ds : List Timing) (cycle : ℕ) → slope_passed ds cycle ≡ true → Passed ds cycle
passed ds cycle e =
    let a = and_parts (fair ds cycle) (all_below ds cycle) e in
    record {
      is_fair = fair_list ds cycle a.0;
      below = All-weaker (λ d. below_at ds cycle d.deadline ≡ true) (λ d. slope_sum ds cycle d.deadline ≤ d.deadline * cycle) (λ d. leb-true _ _) ds (all_from_each (λ d. below_at ds cycle d.deadline) ds a.1);
    }

both : (P Q : Timing → Type 0) (ds : List Timing) → AllByRecursion P ds → AllByRecursion Q ds → AllByRecursion (λ d. P d × Q d) ds
both P Q [] h k = tt
both P Q (d ∷ ds) h k = ((h.0, k.0), both P Q ds h.1 k.1)

-- at the last deadline each line is at least as steep as from the start
pub rates_bounded : RatesBounded
rates_bounded ds cycle e =
    let p = passed ds cycle e in
    let l = last_deadline ds (λ t. slope_sum ds cycle t ≤ t * cycle) (omega (arith, slopes_start ds cycle p.is_fair.each_fair)) p.below in
    at_last p l.instant l.past l.holds
  where
    at_last : Passed ds cycle → (t : ℕ) → AllByRecursion (λ d. d.deadline ≤ t) ds → slope_sum ds cycle t ≤ t * cycle → total (rate cycle) ds ≤ cycle
    at_last p zero past under =
        let none = All-weaker (λ d. Fair cycle d × (d.deadline ≤ 0)) (λ d. rate cycle d ≤ 0) (λ d k. absurd (omega (arith, k.0.is.positive, k.0.is.feasible, k.1))) ds (both (Fair cycle) (λ d. d.deadline ≤ 0) ds p.is_fair.each_fair past) in
        omega (arith, total_most (rate cycle) 0 ds none, mul-zero (length ds))
    at_last p (suc t) past under =
        let steep = slopes_steep ds cycle (suc t) (both (Fair cycle) (λ d. d.deadline ≤ suc t) ds p.is_fair.each_fair past) in
        le_of_mul-le-mul_right {m = total (rate cycle) ds} {n = cycle} {k = suc t} (omega (arith, steep, mul_comm cycle (suc t))) (omega arith)

-- t is a deadline of the list, where P holds, or it is none
at_deadline : (ds : List Timing) (P : ℕ → Type 0) (t : ℕ) → AllByRecursion (λ d. P d.deadline) ds → P t ⊎ AllByRecursion (λ d. d.deadline ≢ t) ds
at_deadline [] P t h = inr tt
at_deadline (d ∷ ds) P t h =
    ⊎_elim
    (λ same. inl (rw same at h.0))
    (λ other. ⊎_elim inl (λ rest. inr (other, rest)) (at_deadline ds P t h.1))
    (cases_eq d.deadline t)

-- tick by tick: at a deadline the test holds, and between them the lines rise by at most the cycle
slopes_below : (ds : List Timing) (cycle : ℕ) → slope_passed ds cycle ≡ true → (t : ℕ) → slope_sum ds cycle t ≤ t * cycle
slopes_below ds cycle e zero = omega (arith, slopes_start ds cycle (passed ds cycle e).is_fair.each_fair)
slopes_below ds cycle e (suc t) =
    let p = passed ds cycle e in
    let before = slopes_below ds cycle e t in
    ⊎_elim
    (λ test. test)
    (λ between. omega (arith, slopes_tick ds cycle t (both (Fair cycle) (λ d. d.deadline ≢ suc t) ds p.is_fair.each_fair between), rates_bounded ds cycle e, suc-mul t cycle))
    (at_deadline ds (λ t. slope_sum ds cycle t ≤ t * cycle) (suc t) p.below)

pub slope_bounded : (ds : List Timing) (cycle : ℕ) → slope_passed ds cycle ≡ true → (t : ℕ) → demands ds t ≤ t
slope_bounded ds cycle e t =
    let w = (passed ds cycle e).is_fair in
    le_of_mul-le-mul_right {m = demands ds t} {n = t} {k = cycle} (omega (arith, slopes_above ds cycle w.each_fair t, slopes_below ds cycle e t)) w.some
