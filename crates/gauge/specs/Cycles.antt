-- The exact gauge: one cycle decides every instant, and the descending scan decides the cycle.
use Rattle.std.specs.Prelude.{◌≡◌, ℕ, zero, suc, ◌+◌, ◌*◌, ◌/◌, ◌%◌, ◌<◌, ◌≤◌, true, false, List, [], ◌∷◌, refl}
use Rattle.std.proofs.Common.{⊎_elim, sym, ap, subst, ◌∙◌, div-add-mod', mod-lt, suc-mul, zero-mul, arith}
use Rattle.std.specs.List.{AllByRecursion}
use Rattle.std.proofs.ByRecursion.{All-weaker}
use Rattle.std.proofs.lemmas.Bool.{and_parts, and_from, leb-true, le-leb, lt-leb, cases_lt, cases_eq}
use Rattle.duty.specs.declared.timings.Timing.{Timing}
use Rattle.duty.specs.Demand.{demand, demands}
use Rattle.gauge.specs.Each.{each_to}
use Rattle.gauge.specs.Fair.{fair}
use Rattle.gauge.specs.Exact.{met_at, exact_passed, CycleDecides, ExactDecides}
use Rattle.gauge.specs.Totals.{total_same, total_plus}
use Rattle.gauge.specs.Eaches.{each_to_from, each_to_at, each_to_fails}
use Rattle.gauge.specs.Fairness.{Fair, FairList, fair_list}
use Rattle.gauge.specs.Demands.{demand_before, demand_spacings, demands_grow}

-- nothing is due at once
demand_start : (cycle : ℕ) (d : Timing) → Fair cycle d → demand d 0 ≡ 0
demand_start cycle d f = demand_before d 0 (omega (arith, f.is.positive, f.is.feasible))

demands_start : (ds : List Timing) (cycle : ℕ) → AllByRecursion (Fair cycle) ds → demands ds 0 ≡ 0
demands_start [] cycle h = refl
demands_start (d ∷ ds) cycle h = omega (arith, demand_start cycle d h.0, demands_start ds cycle h.1)

demand_cycle : (cycle t : ℕ) (d : Timing) → Fair cycle d → demand d (t + cycle) ≡ demand d t + demand d cycle
demand_cycle cycle t d f =
    let k = cycle / d.spacing in
    let later : demand d (t + cycle) ≡ demand d t + d.cost * k = sym (ap (λ (n : ℕ). demand d (t + n)) f.rounds) ∙ demand_spacings d f.is k t in
    let once : demand d cycle ≡ demand d 0 + d.cost * k = ap (demand d) (from_zero cycle _ f.rounds) ∙ demand_spacings d f.is k 0 in
    omega (arith, later, once, demand_start cycle d f)
  where
    from_zero : (n m : ℕ) → m ≡ n → n ≡ 0 + m
    from_zero n m e = omega arith

-- the demand up to t + cycle is the demand up to t and that up to the cycle
pub demands_cycle : (ds : List Timing) (cycle t : ℕ) → AllByRecursion (Fair cycle) ds → demands ds (t + cycle) ≡ demands ds t + demands ds cycle
demands_cycle ds cycle t h =
    total_same (λ d. demand d (t + cycle)) (λ d. demand d t + demand d cycle) ds (All-weaker (Fair cycle) (λ d. demand d (t + cycle) ≡ demand d t + demand d cycle) (demand_cycle cycle t) ds h)
    ∙ total_plus (λ d. demand d t) (λ d. demand d cycle) ds

-- an instant of the first cycle, and the same instant q cycles later
repeated : (ds : List Timing) (cycle : ℕ) → FairList ds cycle → demands ds cycle ≤ cycle → (r : ℕ) → demands ds r ≤ r → (q : ℕ) → demands ds (r + q * cycle) ≤ r + q * cycle
repeated ds cycle w once r h zero = let P : ℕ → Type 0 = λ n. demands ds n ≤ n in subst P (same r cycle) h
  where
    same : (r n : ℕ) → r ≡ r + 0 * n
    same r n = omega (arith, zero-mul n)
repeated ds cycle w once r h (suc q) =
    let P : ℕ → Type 0 = λ n. demands ds n ≤ n in
    let before = repeated ds cycle w once r h q in
    let after : demands ds ((r + q * cycle) + cycle) ≤ (r + q * cycle) + cycle = omega (arith, demands_cycle ds cycle (r + q * cycle) w.each_fair) in
    subst P (same r q cycle) after
  where
    same : (r q n : ℕ) → (r + q * n) + n ≡ r + suc q * n
    same r q n = omega (arith, suc-mul q n)

pub cycle_decides : CycleDecides
cycle_decides ds cycle e met t =
    let w = fair_list ds cycle e in
    let r = t % cycle in
    let q = t / cycle in
    let short : r < cycle = mod-lt t w.some in
    let first : demands ds r ≤ r =
    ⊎_elim
    (λ start. omega (arith, ap (demands ds) start, demands_start ds cycle w.each_fair))
    (λ later. met r (omega arith) (omega arith))
    (cases_eq r 0) in
    let P : ℕ → Type 0 = λ n. demands ds n ≤ n in
    let there : r + q * cycle ≡ t = omega (arith, div-add-mod' t cycle) in
    subst P there (repeated ds cycle w (met cycle w.some (omega arith)) r first q)

pub exact_decides : ExactDecides
exact_decides = record { only = only; back = back }
  where
    only : (ds : List Timing) (cycle : ℕ) → exact_passed ds cycle ≡ true → (t : ℕ) → demands ds t ≤ t
    only ds cycle e =
        let a = and_parts (fair ds cycle) (each_to (met_at ds) cycle) e in
        cycle_decides ds cycle a.0 (λ t low high. leb-true _ _ (each_to_at (met_at ds) cycle t low high a.1))

    back : (ds : List Timing) (cycle : ℕ) → fair ds cycle ≡ true → ((t : ℕ) → demands ds t ≤ t) → exact_passed ds cycle ≡ true
    back ds cycle e met = and_from (fair ds cycle) _ e (each_to_from (met_at ds) cycle (λ t low high. le-leb _ _ (met t)))

-- The scan from the cycle down: h is the demand up to t, and all above t is met.
module _ (ds : List Timing) (cycle t h : ℕ) (is : h ≡ demands ds t) where
  -- no instant at which more is due than there is passes
  pub scan_fails : FairList ds cycle → t ≤ cycle → t < h → each_to (met_at ds) cycle ≡ false
  scan_fails w within over =
      let some : 1 ≤ t =
      ⊎_elim
      (λ start. absurd (omega (arith, ap (demands ds) start, demands_start ds cycle w.each_fair)))
      (λ later. omega arith)
      (cases_eq t 0) in
      each_to_fails (met_at ds) cycle t some within (lt-leb _ _ (omega arith))

  -- from h to t the demand is at most h
  pub scan_more : h ≤ t → ((s : ℕ) → t < s → s ≤ cycle → demands ds s ≤ s) → (s : ℕ) → h ≤ s → s ≤ cycle → demands ds s ≤ s
  scan_more under above s from to =
      ⊎_elim (λ past. above s past to) (λ upto. omega (arith, demands_grow ds s t upto)) (cases_lt t s)

  -- nothing is due by t: no instant is left
  pub scan_passes : h ≡ 0 → ((s : ℕ) → t < s → s ≤ cycle → demands ds s ≤ s) → each_to (met_at ds) cycle ≡ true
  scan_passes none above =
      each_to_from (met_at ds) cycle (λ s low high. le-leb _ _ (scan_more (omega arith) above s (omega arith) high))
