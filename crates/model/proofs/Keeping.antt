-- A loaded board keeps the invariant, and so does every call.
use Rattle.std.proofs.Common.{◌≡◌, ℕ, ◌+◌, ◌-◌, ◌<◌, ◌≤◌, max, false, cond, ltb, leb, List, map, set, Some, None, Option, sym, refl, ap, subst, ⊎_elim, le_trans, arith}
use Rattle.std.specs.List.{slice_get, AllByRecursion}
use Rattle.std.proofs.ByRecursion.{All-set, All-map, All-weaker}
use Rattle.std.proofs.lemmas.Bool.{cases_lt, cond_both, ltb-true, ltb-false, le-leb, lt-leb}
use Rattle.duty.specs.declared.timings.Timing.{Timing}
use Rattle.duty.specs.Demand.{demand, demands}
use Rattle.duty.specs.Sums.{total}
use Rattle.gauge.specs.Demands.{demand_grows}
use Rattle.gauge.specs.Fairness.{Timed}
use Rattle.gauge.specs.Totals.{total_le, total_map}
use Rattle.queue.specs.First.{earliest}
use Rattle.model.specs.declared.jobs.Job.{Job}
use Rattle.model.specs.declared.calls.Call.{Call}
use Rattle.model.specs.declared.calls.Call.TheVariants.{Arrive as arrive, Tick as tick, Finish as finish, GeneralCancel as cancel}
use Rattle.model.specs.Boards.{Place, Board, fresh, loaded, due, dues}
use Rattle.model.specs.Steps.{clock_limit, too_soon, spent, after, Outcome, arriving, finishing, finishing_job, ticking, step}
use Rattle.model.proofs.Lists.{none_some, all_nth, total_set, total_has}
use Rattle.model.proofs.Firsts.{NoneBefore, Leads, Told, told}
use Rattle.model.proofs.Demands.{demand_next, demand_none}
use Rattle.model.proofs.Invariant.{due_by, next_after, next, load, JobSound, Sound, Kept}

-- One place.

-- an arrival that is not too soon comes now
pub next_now : (c spacing : ℕ) (last : Option ℕ) → too_soon c spacing last ≡ false → next_after c spacing last ≡ c
next_now c spacing None h = refl
next_now c spacing (Some a) h = omega (arith, ltb-false c (a + spacing) h)

pub next_least : (c spacing : ℕ) (last : Option ℕ) → c ≤ next_after c spacing last
next_least c spacing None = omega arith
next_least c spacing (Some a) = omega arith

pub next_rises : (c c' spacing : ℕ) (last : Option ℕ) → c ≤ c' → next_after c spacing last ≤ next_after c' spacing last
next_rises c c' spacing None h = omega arith
next_rises c c' spacing (Some a) h = omega arith

-- an arrival turns demand into work
load_arrived : (c t p : ℕ) (x : Place) → Sound c x → too_soon c x.duty.spacing x.last ≡ false → c ≤ t → load c t (after c (arrive p) x) ≤ load c t x
load_arrived c t p x s soon h =
    let d = x.duty in
    let now : demand d (t - next c x) ≡ demand d (t - c) = ap (λ (n : ℕ). demand d (t - n)) (next_now c d.spacing x.last soon) in
    let then : demand d (t - max c (c + d.spacing)) ≡ demand d (t - c - d.spacing) = ap (demand d) (omega arith) in
    ⊎_elim
    (λ (low : t < c + d.deadline).
    let work : cond (leb (c + d.deadline) t) d.cost 0 ≡ 0 = rw (lt-leb (c + d.deadline) t low) in
    omega (arith, now, then, work, demand_none d s.timed (t - c) (omega (arith, s.timed.positive, s.timed.feasible))))
    (λ (high : c + d.deadline ≤ t).
    let work : cond (leb (c + d.deadline) t) d.cost 0 ≡ d.cost = rw (le-leb (c + d.deadline) t high) in
    omega (arith, now, then, work, demand_next d s.timed (t - c) (omega arith)))
    (cases_lt t (c + d.deadline))

-- time only takes demand away
load_later : (c t : ℕ) (x : Place) → load (c + 1) t x ≤ load c t x
load_later c t x =
    omega (arith, demand_grows x.duty (t - next (c + 1) x) (t - next c x) (omega (arith, next_rises c (c + 1) x.duty.spacing x.last (omega arith))))

-- where no work is due by t, the demand is at most that of the time left
load_rest : (c t : ℕ) (x : Place) → due_by t x.job ≡ 0 → load c t x ≤ demand x.duty (t - c)
load_rest c t x z =
    omega (arith, z, demand_grows x.duty (t - next c x) (t - c) (omega (arith, next_least c x.duty.spacing x.last)))

not_due : (t e : ℕ) (job : Option Job) → t < e → NoneBefore e (due job) → due_by t job ≡ 0
not_due t e None h n = refl
not_due t e (Some j) h n = rw (lt-leb j.deadline t (omega arith))

idle_not_due : (t : ℕ) (job : Option Job) → due job ≡ None → due_by t job ≡ 0
idle_not_due t None n = refl
idle_not_due t (Some j) n = absurd (none_some (sym n))

-- a tick takes one unit off the job that gets it, and adds none elsewhere
due_spent : (t : ℕ) (j : Job) → 1 ≤ j.units → j.deadline ≤ t → due_by t (spent (Some j)) + 1 ≡ due_by t (Some j)
due_spent t j some h =
    rw (le-leb j.deadline t h) (cond_both (ltb 1 j.units) (Some (record { deadline = j.deadline; units = j.units - 1 })) None (λ o. due_by t o + 1 ≡ j.units) (λ k. rw (le-leb j.deadline t h) (omega (arith, ltb-true 1 j.units k))) (λ k. omega (arith, ltb-false 1 j.units k)))

due_served : (t : ℕ) (job : Option Job) → due_by t (spent job) ≤ due_by t job
due_served t None = omega arith
due_served t (Some j) =
    cond_both (ltb 1 j.units) (Some (record { deadline = j.deadline; units = j.units - 1 })) None (λ o. due_by t o ≤ due_by t (Some j))
    (λ k. ⊎_elim (λ (low : t < j.deadline). rw (lt-leb j.deadline t low) (omega arith)) (λ (high : j.deadline ≤ t). rw (le-leb j.deadline t high) (omega arith)) (cases_lt t j.deadline))
    (λ k. omega arith)

job_later : (c : ℕ) (d : Timing) (last : Option ℕ) (job : Option Job) → JobSound c d last job → JobSound (c + 1) d last job
job_later c d None None h = tt
job_later c d None (Some j) h = h
job_later c d (Some a) None h = omega arith
job_later c d (Some a) (Some j) h = omega arith

sound_later : (c : ℕ) (x : Place) → Sound c x → Sound (c + 1) x
sound_later c x s = record { timed = s.timed; job = job_later c x.duty x.last x.job s.job }

job_ended : (c : ℕ) (d : Timing) (last : Option ℕ) (job : Option Job) → JobSound c d last job → JobSound c d last None
job_ended c d None job h = tt
job_ended c d (Some a) None h = h
job_ended c d (Some a) (Some j) h = h.0

job_spent : (c : ℕ) (d : Timing) (last : Option ℕ) (job : Option Job) → JobSound c d last job → JobSound c d last (spent job)
job_spent c d last None h = h
job_spent c d None (Some j) h = absurd h
job_spent c d (Some a) (Some j) h =
    cond_both (ltb 1 j.units) (Some (record { deadline = j.deadline; units = j.units - 1 })) None (JobSound c d (Some a)) (λ t. omega (arith, ltb-true 1 j.units t)) (λ t. h.0)

-- whatever call concerns a sound place, it is sound after it
sound_after : (c : ℕ) (call : Call) (x : Place) → Sound c x → Sound c (after c call x)
sound_after c (arrive p) x s = record { timed = s.timed; job = omega (arith, s.timed.positive) }
sound_after c tick x s = record { timed = s.timed; job = job_spent c x.duty x.last x.job s.job }
sound_after c (finish p) x s = record { timed = s.timed; job = job_ended c x.duty x.last x.job s.job }
sound_after c cancel x s = record { timed = s.timed; job = tt }

-- what a waiting job says of its place
pub record Pending (c : ℕ) (x : Place) (j : Job) : Type 0 where
  pub since : ℕ
  pub was : x.last ≡ Some since
  pub past : since ≤ c
  pub due_is : j.deadline ≡ since + x.duty.deadline
  pub some_left : 1 ≤ j.units
  pub not_more : j.units ≤ x.duty.cost

pub pending : (c : ℕ) (x : Place) (j : Job) → Sound c x → x.job ≡ Some j → Pending c x j
pending c x j s w = go x.last refl (subst (JobSound c x.duty x.last) w s.job)
  where
    go : (last : Option ℕ) → x.last ≡ last → JobSound c x.duty last (Some j) → Pending c x j
    go None q h = absurd h
    go (Some a) q h = record { since = a; was = q; past = h.0; due_is = h.1; some_left = h.2; not_more = h.3 }

-- The board.

module _ (b : Board) (k : Kept b) where
  pub sound_at : (p : ℕ) (x : Place) → slice_get b.places p ≡ Some x → Sound b.clock x
  sound_at p x n = all_nth (Sound b.clock) b.places p x k.sound n

  -- the duties' demand does not change where a place keeps its duty
  bounded_set : (p : ℕ) (x y : Place) → slice_get b.places p ≡ Some x → y.duty ≡ x.duty → (t : ℕ) → total (λ (z : Place). demand z.duty t) (set b.places p y) ≤ t
  bounded_set p x y n e t =
      omega (arith, total_set (λ (z : Place). demand z.duty t) b.places p x y n, ap (λ (d : Timing). demand d t) e, k.bounded t)

  kept_arrive : (p : ℕ) (x : Place) → slice_get b.places p ≡ Some x → too_soon b.clock x.duty.spacing x.last ≡ false → Kept (record { clock = b.clock; places = set b.places p (after b.clock (arrive p) x) })
  kept_arrive p x n soon = record {
    bounded = bounded_set p x (after b.clock (arrive p) x) n refl;
    fits = λ t h. omega (arith, k.fits t h, total_set (load b.clock t) b.places p x (after b.clock (arrive p) x) n, load_arrived b.clock t p x (sound_at p x n) soon h);
    sound = All-set (Sound b.clock) b.places p _ (sound_after b.clock (arrive p) x (sound_at p x n)) k.sound;
  }

  kept_finish : (p : ℕ) (x : Place) → slice_get b.places p ≡ Some x → Kept (record { clock = b.clock; places = set b.places p (after b.clock (finish p) x) })
  kept_finish p x n = record {
    bounded = bounded_set p x (after b.clock (finish p) x) n refl;
    fits = λ t h. omega (arith, k.fits t h, total_set (load b.clock t) b.places p x (after b.clock (finish p) x) n);
    sound = All-set (Sound b.clock) b.places p _ (sound_after b.clock (finish p) x (sound_at p x n)) k.sound;
  }

  kept_cancel : Kept (record { clock = b.clock; places = map (after b.clock cancel) b.places })
  kept_cancel = record {
    bounded = λ t. rw (total_map (λ (z : Place). demand z.duty t) (after b.clock cancel) b.places) (k.bounded t);
    fits = λ t h.
        rw (total_map (load b.clock t) (after b.clock cancel) b.places)
        (le_trans
        (total_le (λ (x : Place). load b.clock t (after b.clock cancel x)) (λ (x : Place). demand x.duty (t - b.clock)) b.places (All-weaker (Sound b.clock) _ (λ x s. omega arith) b.places k.sound))
        (k.bounded (t - b.clock)));
    sound = All-map (Sound b.clock) (after b.clock cancel) b.places (All-weaker (Sound b.clock) _ (λ x s. sound_after b.clock cancel x s) b.places k.sound);
  }

  -- no work is due by t at any place: a tick later, what may arrive still fits
  rests : (t : ℕ) → AllByRecursion (λ (x : Place). due_by t x.job ≡ 0) b.places → total (load (b.clock + 1) t) b.places ≤ t - (b.clock + 1)
  rests t z =
      le_trans
      (total_le (load (b.clock + 1) t) (λ (x : Place). demand x.duty (t - (b.clock + 1))) b.places (All-weaker _ _ (λ x h. load_rest (b.clock + 1) t x h) b.places z))
      (k.bounded (t - (b.clock + 1)))

  sound_next : AllByRecursion (Sound (b.clock + 1)) b.places
  sound_next = All-weaker _ _ (sound_later b.clock) b.places k.sound

  kept_idle : AllByRecursion (λ (x : Place). due x.job ≡ None) b.places → Kept (record { clock = b.clock + 1; places = b.places })
  kept_idle idles = record {
    bounded = k.bounded;
    fits = λ t h. rests t (All-weaker _ _ (λ x. idle_not_due t x.job) b.places idles);
    sound = sound_next;
  }

  -- the first job gets the tick: either it is due by t and the work by t falls by one, or no work is due by t
  kept_tick : (p : ℕ) (f : Leads b.places p) → Kept (record { clock = b.clock + 1; places = set b.places p (after b.clock tick f.place) })
  kept_tick p f =
      let c = b.clock in
      let x = f.place in
      let y = after c tick x in
      record {
        bounded = bounded_set p x y f.there refl;
        fits = λ t h.
            let q = total_set (load (c + 1) t) b.places p x y f.there in
            ⊎_elim
            (λ (low : t < f.job.deadline).
            omega (arith, q, due_served t x.job, rests t (All-weaker _ _ (λ z. not_due t f.job.deadline z.job low) b.places f.earliest_due)))
            (λ (high : f.job.deadline ≤ t).
            let one : due_by t (spent x.job) + 1 ≡ due_by t x.job = rw f.waits (due_spent t f.job (pending c x f.job (sound_at p x f.there) f.waits).some_left high) in
            omega (arith, q, one, k.fits t (omega arith), total_le (load (c + 1) t) (load c t) b.places (All-weaker _ _ (λ z s. load_later c t z) b.places k.sound)))
            (cases_lt t f.job.deadline);
        sound = All-set (Sound (c + 1)) b.places p y (sound_later c y (sound_after c tick x (sound_at p x f.there))) sound_next;
      }

  -- no waiting job is overdue
  pub not_overdue : (p : ℕ) (x : Place) (j : Job) → slice_get b.places p ≡ Some x → x.job ≡ Some j → b.clock < j.deadline
  not_overdue p x j n w =
      let c = b.clock in
      ⊎_elim
      (λ (h : c < j.deadline). h)
      (λ (h : j.deadline ≤ c).
      let work : due_by c x.job ≡ j.units = rw w (rw (le-leb j.deadline c h)) in
      absurd (omega (arith, work, (pending c x j (sound_at p x n) w).some_left, k.fits c (omega arith), total_has (load c c) b.places p x n)))
      (cases_lt c j.deadline)

  pub kept_step : (call : Call) → Kept (step b call).board
  kept_step (arrive p) = go (slice_get b.places p) refl
    where
      go : (o : Option Place) → slice_get b.places p ≡ o → Kept (arriving b p o).board
      go None n = k
      go (Some x) n =
          cond_both (too_soon b.clock x.duty.spacing x.last) _ _ (λ (o : Outcome). Kept o.board) (λ t. k) (λ t. kept_arrive p x n t)
  kept_step tick =
      cond_both (ltb b.clock clock_limit) _ _ (λ (o : Outcome). Kept o.board) (λ t. go (earliest (dues b.places)) (told b.places)) (λ t. k)
    where
      at : (p : ℕ) → Leads b.places p → Kept (ticking b (Some p)).board
      at p f = rw f.there (kept_tick p f)

      go : (o : Option ℕ) → Told b.places o → Kept (ticking b o).board
      go None h = kept_idle h
      go (Some p) h = at p h
  kept_step (finish p) = go (slice_get b.places p) refl
    where
      at : (x : Place) → slice_get b.places p ≡ Some x → (j : Option Job) → Kept (finishing_job b p x j).board
      at x n None = k
      at x n (Some j) = kept_finish p x n

      go : (o : Option Place) → slice_get b.places p ≡ o → Kept (finishing b p o).board
      go None n = k
      go (Some x) n = at x n x.job
  kept_step cancel = kept_cancel

-- a fresh board with a list whose demand is bounded
pub kept_loaded : (ds : List Timing) → AllByRecursion Timed ds → ((t : ℕ) → demands ds t ≤ t) → Kept (loaded ds)
kept_loaded ds timed bounded = record {
  bounded = λ t. rw (total_map (λ (x : Place). demand x.duty t) fresh ds) (bounded t);
  fits = λ t _.
      rw (total_map (load 0 t) fresh ds)
      (le_trans (total_le (λ (d : Timing). load 0 t (fresh d)) (λ (d : Timing). demand d (t - 0)) ds (All-weaker Timed _ (λ d s. omega arith) ds timed)) (bounded (t - 0)));
  sound = All-map (Sound 0) fresh ds (All-weaker Timed _ (λ d s. record { timed = s; job = tt }) ds timed);
}
