-- Where the demand up to t is more than t, the t ticks before t cannot serve every job that is due by t.
use Rattle.std.proofs.Common.{◌≡◌, ℕ, zero, suc, ◌+◌, ◌*◌, ◌<◌, ◌≤◌, ◌⊎◌, List, [], ◌∷◌, length, Some, sym, ap, ◌∙◌, inl, inr, ⊎_elim, add-zero, add-suc, suc-add, mul-zero, zero-add, mul-suc, arith}
use Rattle.std.specs.List.{slice_get, AllByRecursion}
use Rattle.std.proofs.lemmas.Bool.{leb-false, cases_lt, and_cases, both_ways}
use Rattle.duty.specs.declared.timings.Timing.{Timing}
use Rattle.duty.specs.Demand.{demand, demands}
use Rattle.duty.specs.Sums.{total}
use Rattle.gauge.specs.Each.{each_to}
use Rattle.gauge.specs.Exact.{met_at}
use Rattle.gauge.specs.Fair.{fair}
use Rattle.gauge.specs.Shortage.{Way, ticks, Short, RefusedListsLeaveAJobShort}
use Rattle.gauge.proofs.Counting.{job_of, share_of_first, share_from, first_more, places_apart, places_share}
use Rattle.gauge.specs.Demands.{jobs, jobs_due, demand_before, demand_after}
use Rattle.gauge.specs.Eaches.{each_to_failing}
use Rattle.gauge.specs.Fairness.{Timed, all_timed, fair_list}

module _ (ds : List Timing) (t : ℕ) (way : Way) where
  -- no job was found short, and so P holds
  abbrev UnlessShort : Type 0 → Type 0
  UnlessShort P = Short ds t way ⊎ P

  -- the first k jobs of the duty d at the place p, all due by t, got their costs
  rounds_served : (p : ℕ) (d : Timing) → slice_get ds p ≡ Some d → Timed d → d.deadline ≤ t → (k : ℕ) → k ≤ jobs d t → UnlessShort (d.cost * k ≤ total (share_of_first p k) way)
  rounds_served p d is w high zero within = inr (omega (arith, mul-zero d.cost))
  rounds_served p d is w high (suc k) within =
      let got = ticks (job_of p k) way in
      ⊎_elim inl
      (λ (before : d.cost * k ≤ total (share_of_first p k) way).
      ⊎_elim
      (λ (less : got < d.cost). inl (record { job = job_of p k; duty = d; in_place = is; due_by = jobs_due d t w high k within; lacking = less }))
      (λ (enough : d.cost ≤ got). inr (omega (arith, mul-suc d.cost k, first_more p k way)))
      (cases_lt got d.cost))
      (rounds_served p d is w high k (omega arith))

  -- that duty's jobs due by t, however many, got its demand
  duty_served : (p : ℕ) (d : Timing) → slice_get ds p ≡ Some d → Timed d → UnlessShort ((k : ℕ) × (demand d t ≤ total (share_of_first p k) way))
  duty_served p d is w =
      ⊎_elim
      (λ low. inr (0, omega (arith, demand_before d t low)))
      (λ high.
      ⊎_elim inl
      (λ (all : d.cost * jobs d t ≤ total (share_of_first p (jobs d t)) way). inr (jobs d t, omega (arith, demand_after d t high)))
      (rounds_served p d is w high (jobs d t) (omega arith)))
      (cases_lt t d.deadline)

  -- the duties from the place p on got their demands
  served : (p : ℕ) (rest : List Timing) → ((j : ℕ) → slice_get ds (p + j) ≡ slice_get rest j) → AllByRecursion Timed rest → UnlessShort (demands rest t ≤ total (share_from p) way)
  served p [] from w = inr (omega arith)
  served p (d ∷ rest) from w =
      ⊎_elim inl
      (λ (here : (k : ℕ) × (demand d t ≤ total (share_of_first p k) way)).
      ⊎_elim inl
      (λ (later : demands rest t ≤ total (share_from (suc p)) way). inr (omega (arith, here.1, places_apart p here.0 way)))
      (served (suc p) rest (λ j. ap (slice_get ds) (suc-add p j ∙ sym (add-suc p j)) ∙ from (suc j)) w.1))
      (duty_served p d (ap (slice_get ds) (sym (add-zero p)) ∙ from 0) w.0)

  -- all duties together cannot have got more than there is
  overload : AllByRecursion Timed ds → t < demands ds t → length way ≡ t → Short ds t way
  overload w over whole =
      ⊎_elim
      (λ short. short)
      (λ (all : demands ds t ≤ total (share_from 0) way). absurd (omega (arith, places_share 0 way)))
      (served 0 ds (λ j. ap (slice_get ds) (zero-add j)) w)

pub refused_lists_leave_a_job_short : RefusedListsLeaveAJobShort
refused_lists_leave_a_job_short ds cycle judged refused =
    ⊎_elim
    (λ unfair. absurd (both_ways (fair ds cycle) unfair judged))
    (λ unmet.
    let found = each_to_failing (met_at ds) cycle unmet in
    let duties = all_timed ds (fair_list ds cycle judged).each_timely in
    record {
      t = found.0;
      in_cycle = found.1;
      each_way = λ way whole. overload ds found.0 way duties (leb-false _ _ found.2) whole;
    })
    (and_cases (fair ds cycle) (each_to (met_at ds) cycle) refused)
