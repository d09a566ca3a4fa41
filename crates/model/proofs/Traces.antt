-- Lists of events as a board answers them, cut into parts: what holds at each cut.
use Rattle.std.proofs.Common.{◌≡◌, ℕ, ◌+◌, ltb, List, [], ◌∷◌, ◌++◌, map, set, Some, None, Option, sym, refl, ap, ◌∙◌, subst, arith}
use Rattle.std.specs.List.{slice_get}
use Rattle.std.proofs.lemmas.Bool.{cond_both}
use Rattle.fault.specs.declared.Cause.TheVariants.{ClockFull}
use Rattle.duty.specs.declared.timings.Timing.{Timing}
use Rattle.queue.specs.First.{earliest}
use Rattle.model.specs.declared.jobs.Job.{Job}
use Rattle.model.specs.declared.calls.Call.{Call}
use Rattle.model.specs.declared.calls.Call.TheVariants.{Arrive as arrive, Tick as tick, Finish as finish, GeneralCancel as cancel}
use Rattle.model.specs.declared.calls.Answer.{Answer}
use Rattle.model.specs.declared.calls.Event.{Event}
use Rattle.model.specs.Boards.{Place, Board, loaded, dues}
use Rattle.model.specs.Steps.{clock_limit, too_soon, after, Outcome, refusing, arriving, finishing, finishing_job, ticking, served_at, step, run}
use Rattle.model.specs.Events.{ticks_in, clock}
use Rattle.model.proofs.Lists.{map_set_same, map_same}
use Rattle.model.proofs.Invariant.{Kept}
use Rattle.model.proofs.Keeping.{kept_step}

-- each answer is the board's
abbrev pub Answered : Board → List Event → Type 0
Answered b [] = Unit {0}
Answered b (e ∷ es) = (e.answer ≡ (step b e.call).answer) × Answered (step b e.call).board es

-- the board after the events
abbrev pub reached : Board → List Event → Board
reached b [] = b
reached b (e ∷ es) = reached (step b e.call).board es

pub run_answered : (b : Board) (cs : List Call) → Answered b (run b cs)
run_answered b [] = tt
run_answered b (c ∷ cs) = (refl, run_answered (step b c).board cs)

pub answered_left : (b : Board) (xs ys : List Event) → Answered b (xs ++ ys) → Answered b xs
answered_left b [] ys h = tt
answered_left b (e ∷ xs) ys h = (h.0, answered_left (step b e.call).board xs ys h.1)

pub answered_right : (b : Board) (xs ys : List Event) → Answered b (xs ++ ys) → Answered (reached b xs) ys
answered_right b [] ys h = h
answered_right b (e ∷ xs) ys h = answered_right (step b e.call).board xs ys h.1

pub kept_reached : (b : Board) → Kept b → (es : List Event) → Kept (reached b es)
kept_reached b k [] = k
kept_reached b k (e ∷ es) = kept_reached (step b e.call).board (kept_step b k e.call) es

-- The clock counts the accepted ticks.

abbrev Clocked : Board → Call → Outcome → Type 0
Clocked b call o = o.board.clock ≡ b.clock + ticks_in (record { call = call; answer = o.answer })

clock_step : (b : Board) (call : Call) → Clocked b call (step b call)
clock_step b (arrive p) = go (slice_get b.places p)
  where
    go : (o : Option Place) → Clocked b (arrive p) (arriving b p o)
    go None = omega arith
    go (Some x) =
        cond_both (too_soon b.clock x.duty.spacing x.last) _ _ (Clocked b (arrive p)) (λ t. omega arith) (λ t. omega arith)
clock_step b tick =
    cond_both (ltb b.clock clock_limit) (ticking b (earliest (dues b.places))) (refusing b ClockFull) (Clocked b tick) (λ t. refl) (λ t. omega arith)
clock_step b (finish p) = go (slice_get b.places p)
  where
    at : (x : Place) (j : Option Job) → Clocked b (finish p) (finishing_job b p x j)
    at x None = omega arith
    at x (Some j) = omega arith

    go : (o : Option Place) → Clocked b (finish p) (finishing b p o)
    go None = omega arith
    go (Some x) = at x x.job
clock_step b cancel = omega arith

pub clock_reached : (b : Board) (es : List Event) → Answered b es → (reached b es).clock ≡ b.clock + clock es
clock_reached b [] h = omega arith
clock_reached b (e ∷ es) h =
    let k = subst (λ (a : Answer). (step b e.call).board.clock ≡ b.clock + ticks_in (record { call = e.call; answer = a })) (sym h.0) (clock_step b e.call) in
    omega (arith, k, clock_reached (step b e.call).board es h.1)

-- The duties stay.

abbrev pub duties : Board → List Timing
duties b = map (λ (x : Place). x.duty) b.places

abbrev SameDuties : Board → Outcome → Type 0
SameDuties b o = duties o.board ≡ duties b

same_set : (b : Board) (p : ℕ) (x : Place) (call : Call) → slice_get b.places p ≡ Some x → map (λ (z : Place). z.duty) (set b.places p (after b.clock call x)) ≡ duties b
same_set b p x call n = map_set_same (λ (z : Place). z.duty) b.places p x (after b.clock call x) n refl

duties_step : (b : Board) (call : Call) → SameDuties b (step b call)
duties_step b (arrive p) = go (slice_get b.places p) refl
  where
    go : (o : Option Place) → slice_get b.places p ≡ o → SameDuties b (arriving b p o)
    go None n = refl
    go (Some x) n =
        cond_both (too_soon b.clock x.duty.spacing x.last) _ _ (SameDuties b) (λ t. refl) (λ t. same_set b p x (arrive p) n)
duties_step b tick =
    cond_both (ltb b.clock clock_limit) _ _ (SameDuties b) (λ t. go (earliest (dues b.places))) (λ t. refl)
  where
    at : (p : ℕ) (o : Option Place) → slice_get b.places p ≡ o → map (λ (z : Place). z.duty) (served_at b p o) ≡ duties b
    at p None n = refl
    at p (Some x) n = same_set b p x tick n

    go : (o : Option ℕ) → SameDuties b (ticking b o)
    go None = refl
    go (Some p) = at p (slice_get b.places p) refl
duties_step b (finish p) = go (slice_get b.places p) refl
  where
    at : (x : Place) → slice_get b.places p ≡ Some x → (j : Option Job) → SameDuties b (finishing_job b p x j)
    at x n None = refl
    at x n (Some j) = same_set b p x (finish p) n

    go : (o : Option Place) → slice_get b.places p ≡ o → SameDuties b (finishing b p o)
    go None n = refl
    go (Some x) n = at x n x.job
duties_step b cancel = map_same (λ (z : Place). z.duty) (after b.clock cancel) (λ x. refl) b.places

duties_reached : (b : Board) (es : List Event) → duties (reached b es) ≡ duties b
duties_reached b [] = refl
duties_reached b (e ∷ es) = duties_reached (step b e.call).board es ∙ duties_step b e.call

duties_loaded : (ds : List Timing) → duties (loaded ds) ≡ ds
duties_loaded [] = refl
duties_loaded (d ∷ ds) = ap (λ (xs : List Timing). d ∷ xs) (duties_loaded ds)

-- whatever was called, the duties are those that were loaded
pub still_loaded : (ds : List Timing) (es : List Event) → duties (reached (loaded ds) es) ≡ ds
still_loaded ds es = duties_reached (loaded ds) es ∙ duties_loaded ds
