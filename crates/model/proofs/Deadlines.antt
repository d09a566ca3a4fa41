-- What a job gets: never more than its units, and all of them by its deadline.
use Rattle.std.proofs.Common.{◌≡◌, ℕ, ◌+◌, ◌-◌, ◌<◌, ◌≤◌, true, false, ltb, List, [], ◌∷◌, Some, None, Option, refl, ap, ◌∙◌, subst, ⊎_elim, arith}
use Rattle.std.specs.List.{slice_get, AllByRecursion}
use Rattle.std.proofs.lemmas.Bool.{cond_both, cases_lt, ltb-true, ltb-false, lt-ltb, le-ltb, both_ways, eq-eqb}
use Rattle.duty.specs.declared.timings.Timing.{Timing}
use Rattle.duty.specs.Demand.{demands}
use Rattle.gauge.specs.Fairness.{Timed}
use Rattle.model.specs.declared.jobs.Job.{Job}
use Rattle.model.specs.declared.calls.Call.TheVariants.{Arrive as arrive}
use Rattle.model.specs.declared.calls.Answer.{Answer}
use Rattle.model.specs.declared.calls.Answer.TheVariants.{Granted as granted}
use Rattle.model.specs.declared.calls.Event.{Event}
use Rattle.model.specs.Boards.{Place, Board, loaded}
use Rattle.model.specs.Steps.{too_soon, spent, after, Outcome, arriving, step}
use Rattle.model.specs.Events.{accepted, arrives, ends_job, clock, job_got, Undisturbed}
use Rattle.model.specs.Promises.{EachJobHasItsCostByItsDeadline}
use Rattle.model.proofs.Lists.{nth_map}
use Rattle.model.proofs.Invariant.{Kept}
use Rattle.model.proofs.Keeping.{pending, sound_at, not_overdue, kept_step, kept_loaded}
use Rattle.model.proofs.Effects.{Effect, begins, stays, works, ends, clears, moved}
use Rattle.model.proofs.Traces.{Answered, reached, answered_left, answered_right, kept_reached, clock_reached, still_loaded}

-- the units left of a job
abbrev pub left : Option Job → ℕ
left None = 0
left (Some j) = j.units

left_spent : (j : Job) → 1 ≤ j.units → left (spent (Some j)) + 1 ≡ j.units
left_spent j some =
    cond_both (ltb 1 j.units) (Some (record { deadline = j.deadline; units = j.units - 1 })) None (λ o. left o + 1 ≡ j.units) (λ k. omega (arith, ltb-true 1 j.units k)) (λ k. omega (arith, ltb-false 1 j.units k))

-- a job that got a tick has one unit less
pub left_served : (b : Board) → Kept b → (p : ℕ) (x : Place) (j : Job) → slice_get b.places p ≡ Some x → x.job ≡ Some j → left (spent x.job) + 1 ≡ left x.job
left_served b k p x j n w = rw w (left_spent j (pending b.clock x j (sound_at b k p x n) w).some_left)

abbrev left_at : Place → ℕ
left_at x = left x.job

module _ (b : Board) (k : Kept b) (p : ℕ) (x : Place) (n : slice_get b.places p ≡ Some x) where
  never_more_step : (e : Event) (y : Place) → Effect p b.clock e x y → (es : List Event) → job_got p es ≤ left y.job → job_got p (e ∷ es) ≤ left x.job
  never_more_step e y (begins q s t g soon) es ih = rw s (omega arith)
  never_more_step e y (stays q s g) es ih = rw s (omega (arith, ap left_at q))
  never_more_step e y (works j w q s t g) es ih = rw s (omega (arith, ap left_at q, left_served b k p x j n w))
  never_more_step e y (ends q s t g f) es ih = rw s (omega (arith, ap left_at q))
  never_more_step e y (clears q s t g f h) es ih = rw s (omega (arith, ap left_at q))

  -- a place whose job waits cannot arrive: its deadline would have passed before
  no_arrival : (j : Job) → x.job ≡ Some j → too_soon b.clock x.duty.spacing x.last ≡ false → ⊥
  no_arrival j w soon =
      let s = sound_at b k p x n in
      let a = pending b.clock x j s w in
      let late = ltb-false b.clock (a.since + x.duty.spacing) (rw a.was at soon) in
      omega (arith, a.due_is, s.timed.constrained, late, not_overdue b k p x j n w)

  in_full_step : (j : Job) → x.job ≡ Some j → (e : Event) → ends_job p e ≡ false → (y : Place) → Effect p b.clock e x y → (es : List Event) → job_got p es ≤ left y.job → ((v : ℕ) → y.job ≡ Some (record { deadline = j.deadline; units = v }) → job_got p es ≡ v) → job_got p (e ∷ es) ≡ j.units
  in_full_step j w e f y (begins q s t g soon) es le ih = absurd (no_arrival j w soon)
  in_full_step j w e f y (stays q s g) es le ih = rw s (omega (arith, ih j.units (ap (λ (z : Place). z.job) q ∙ w)))
  in_full_step j w e f y (works j' w' q s t g) es le ih =
      let a = pending b.clock x j (sound_at b k p x n) w in
      let c : y.job ≡ spent (Some j) = ap (λ (z : Place). z.job) q ∙ ap spent w in
      ⊎_elim
      (λ (more : 1 < j.units).
      let c' : y.job ≡ Some (record { deadline = j.deadline; units = j.units - 1 }) = rw (lt-ltb 1 j.units more) at c in
      rw s (omega (arith, ih (j.units - 1) c')))
      (λ (last : j.units ≤ 1).
      let c' : y.job ≡ None = rw (le-ltb 1 j.units last) at c in
      rw s (omega (arith, ap left c', a.some_left)))
      (cases_lt 1 j.units)
  in_full_step j w e f y (ends q s t g h) es le ih = absurd (both_ways (ends_job p e) f h)
  in_full_step j w e f y (clears q s t g c h) es le ih = absurd (both_ways (ends_job p e) f h)

pub never_more : (b : Board) → Kept b → (p : ℕ) (x : Place) → slice_get b.places p ≡ Some x → (es : List Event) → Answered b es → job_got p es ≤ left x.job
never_more b k p x n [] h = omega arith
never_more b k p x n (e ∷ es) h =
    let m = moved b p x n e h.0 in
    never_more_step b k p x n e m.later m.how es (never_more (step b e.call).board (kept_step b k e.call) p m.later m.there es h.1)

-- once the clock has reached the deadline of a waiting job that was left alone, it has got all its units
pub in_full : (b : Board) → Kept b → (p : ℕ) (x : Place) (j : Job) → slice_get b.places p ≡ Some x → x.job ≡ Some j → (es : List Event) → Answered b es → j.deadline ≤ b.clock + clock es → Undisturbed p es → job_got p es ≡ j.units
in_full b k p x j n w [] h due q = absurd (omega (arith, not_overdue b k p x j n w))
in_full b k p x j n w (e ∷ es) h due q =
    let m = moved b p x n e h.0 in
    let b' = (step b e.call).board in
    let k' = kept_step b k e.call in
    in_full_step b k p x n j w e q.0 m.later m.how es
    (never_more b' k' p m.later m.there es h.1)
    (λ v w'. in_full b' k' p m.later (record { deadline = j.deadline; units = v }) m.there w' es h.1 (omega (arith, m.clock_is)) q.1)

-- what an accepted arrival says of its place
record Accepted (b : Board) (p : ℕ) (answer : Answer) : Type 0 where
  place : Place
  there : slice_get b.places p ≡ Some place
  answer_is : answer ≡ granted (b.clock + place.duty.deadline) place.duty.cost

accepted_says : (b : Board) (p : ℕ) (answer : Answer) → accepted answer ≡ true → answer ≡ (step b (arrive p)).answer → Accepted b p answer
accepted_says b p answer ok a = go (slice_get b.places p) refl a
  where
    go : (o : Option Place) → slice_get b.places p ≡ o → answer ≡ (arriving b p o).answer → Accepted b p answer
    go None n h = absurd (both_ways (accepted answer) (ap accepted h) ok)
    go (Some x) n h =
        (cond_both (too_soon b.clock x.duty.spacing x.last) _ _ (λ (o : Outcome). answer ≡ o.answer → Accepted b p answer)
        (λ t q. absurd (both_ways (accepted answer) (ap accepted q) ok))
        (λ t q. record { place = x; there = n; answer_is = q })) h

begun : (p c : ℕ) (e : Event) (x y : Place) → arrives p e ≡ true → Effect p c e x y → y ≡ after c (arrive p) x
begun p c e x y h (begins q s t g soon) = q
begun p c e x y h (stays q s g) = absurd (both_ways (arrives p e) s h)
begun p c e x y h (works j w q s t g) = absurd (both_ways (arrives p e) s h)
begun p c e x y h (ends q s t g f) = absurd (both_ways (arrives p e) s h)
begun p c e x y h (clears q s t g f l) = absurd (both_ways (arrives p e) s h)

pub each_job : (ds : List Timing) → AllByRecursion Timed ds → ((t : ℕ) → demands ds t ≤ t) → (events : List Event) → Answered (loaded ds) events → EachJobHasItsCostByItsDeadline ds events
each_job ds timed bounded events answered before after p answer cut ok =
    let e : Event = record { call = arrive p; answer = answer } in
    let all = subst (Answered (loaded ds)) cut answered in
    let b = reached (loaded ds) before in
    let k = kept_reached (loaded ds) (kept_loaded ds timed bounded) before in
    let from = answered_right (loaded ds) before (e ∷ after) all in
    let reading = clock_reached (loaded ds) before (answered_left (loaded ds) before (e ∷ after) all) in
    let a = accepted_says b p answer ok from.0 in
    let x = a.place in
    let m = moved b p x a.there e from.0 in
    let y = begun p b.clock e x m.later (rw (eq-eqb p p refl) ok) m.how in
    let b' = (step b (arrive p)).board in
    let k' = kept_step b k (arrive p) in
    let zero_clock : b.clock ≡ clock before = omega (arith, reading) in
    let job : Job = record { deadline = b.clock + x.duty.deadline; units = x.duty.cost } in
    let j : m.later.job ≡ Some job = ap (λ (z : Place). z.job) y in
    record {
      duty = x.duty;
      there = subst (λ (l : List Timing). slice_get l p ≡ Some x.duty) (still_loaded ds before) (nth_map (λ (z : Place). z.duty) b.places p x a.there);
      answered = a.answer_is ∙ ap (λ (c : ℕ). granted (c + x.duty.deadline) x.duty.cost) zero_clock;
      never_more = omega (arith, ap left j, never_more b' k' p m.later m.there after from.1);
      by_its_deadline = λ between rest cut' reach quiet.
          in_full b' k' p m.later job m.there j between
          (answered_left b' between rest (subst (Answered b') cut' from.1))
          (omega (arith, zero_clock, m.clock_is, reach))
          quiet;
    }
