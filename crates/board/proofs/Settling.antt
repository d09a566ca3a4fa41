-- A queue is settled at the place that a call concerned, and so stays in step.
use Rattle.std.proofs.Common.{◌≡◌, ℕ, ◌+◌, true, cond, ltb, List, set, Some, None, Option, sym, refl, ap, ◌∙◌, subst, arith}
use Rattle.std.specs.List.{slice_get}
use Rattle.std.proofs.lemmas.Bool.{cond_both, cond-true}
use Rattle.fault.specs.declared.Cause.TheVariants.{ClockFull}
use Rattle.queue.specs.First.{earliest, Foremost}
use Rattle.queue.specs.Places.{places as width}
use Rattle.queue.proofs.Foremosts.{foremost}
use Rattle.model.specs.declared.jobs.Job.{Job}
use Rattle.model.specs.declared.calls.Answer.{Answer}
use Rattle.model.specs.declared.calls.Answer.TheVariants.{Ran as ran}
use Rattle.model.specs.declared.calls.Call.TheVariants.{Arrive as arrive, Tick as tick, Finish as finish}
use Rattle.model.specs.Boards.{Place, Board, dues}
use Rattle.model.specs.Events.{accepted}
use Rattle.model.specs.Queues.{padded, InStep, due_at}
use Rattle.model.specs.Steps.{clock_limit, too_soon, after, Outcome, refusing, arriving, finishing, finishing_job, served_at, ticking, ticked, step}
use Rattle.model.proofs.Queueing.{first_in_step, padded_set, padded_same}

-- what the queue holds after a call of this outcome that concerned the place p: an accepted one leaves there what waits there now
abbrev held_after : List (Option ℕ) → ℕ → Outcome → List (Option ℕ)
held_after h p o = cond (accepted o.answer) (set h p (due_at (slice_get o.board.places p))) h

-- a queue in step stays so through a call of this outcome that concerned the place p
abbrev pub KeepsStep : Board → ℕ → Outcome → Type 0
KeepsStep b p o = (h : List (Option ℕ)) → InStep h b → InStep (held_after h p o) o.board

-- a place is replaced
replaced : (b : Board) (p : ℕ) (y : Place) (c : ℕ) (h : List (Option ℕ)) → InStep h b → InStep (set h p (due_at (slice_get (set b.places p y) p))) (record { clock = c; places = set b.places p y })
replaced b p y c h i =
    ap (λ (l : List (Option ℕ)). set l p (due_at (slice_get (set b.places p y) p))) i ∙ padded_set width b.places p y

pub arrive_keeps : (b : Board) (p : ℕ) → KeepsStep b p (step b (arrive p))
arrive_keeps b p = go (slice_get b.places p)
  where
    go : (o : Option Place) → KeepsStep b p (arriving b p o)
    go None = λ h i. i
    go (Some x) =
        cond_both (too_soon b.clock x.duty.spacing x.last) _ _ (KeepsStep b p) (λ t h i. i) (λ t h i. replaced b p (after b.clock (arrive p) x) b.clock h i)

pub finish_keeps : (b : Board) (p : ℕ) → KeepsStep b p (step b (finish p))
finish_keeps b p = go (slice_get b.places p)
  where
    at : (x : Place) (job : Option Job) → KeepsStep b p (finishing_job b p x job)
    at x None = λ h i. i
    at x (Some j) = λ h i. replaced b p (after b.clock (finish p) x) b.clock h i

    go : (o : Option Place) → KeepsStep b p (finishing b p o)
    go None = λ h i. i
    go (Some x) = at x x.job

tick_keeps : (b : Board) (p : ℕ) → KeepsStep b p (ticked b (Some p))
tick_keeps b p =
    cond_both (ltb b.clock clock_limit) (ticking b (Some p)) (refusing b ClockFull) (KeepsStep b p) (λ t. go (slice_get b.places p) refl) (λ t h i. i)
  where
    go : (o : Option Place) → slice_get b.places p ≡ o → KeepsStep b p (record { board = record { clock = b.clock + 1; places = served_at b p o }; answer = ran (Some p) })
    go None n = λ h i. ap (λ (l : List (Option ℕ)). set l p (due_at (slice_get b.places p))) i ∙ padded_same width b.places p
    go (Some x) n = λ h i. replaced b p (after b.clock tick x) (b.clock + 1) h i

-- an accepted tick went to the place that was told
ran_is : (b : Board) (first place : Option ℕ) → ran place ≡ (ticked b first).answer → place ≡ first
ran_is b first place e =
    (cond_both (ltb b.clock clock_limit) (ticking b first) (refusing b ClockFull) (λ (o : Outcome). ran place ≡ o.answer → place ≡ first)
    (λ t q. cc)
    (λ t q. let z : ◌≡◌ {A = ℕ} 0 1 = cc in absurd (omega arith))) e

module _ (b : Board) (h : List (Option ℕ)) (in_step : InStep h b) where
  -- a call was accepted that concerned p, and the queue was told what waits there now
  pub settled : (o : Outcome) (p : ℕ) → KeepsStep b p o → (answer : Answer) → answer ≡ o.answer → accepted answer ≡ true → (later : Board) → later ≡ o.board → (h' : List (Option ℕ)) → h' ≡ set h p (due_at (slice_get later.places p)) → InStep h' later
  settled o p keeps answer a ok later same h' told =
      let ok' : accepted o.answer ≡ true = ap accepted (sym a) ∙ ok in
      told
      ∙ ap (λ (x : Board). set h p (due_at (slice_get x.places p))) same
      ∙ sym (cond-true (accepted o.answer) _ _ ok')
      ∙ keeps h in_step
      ∙ ap (λ (x : Board). padded width (dues x.places)) (sym same)

  -- a tick went to p, which was told to be first
  pub settled_tick : (first : Option ℕ) (p : ℕ) → first ≡ Some p → (answer : Answer) → answer ≡ (ticked b first).answer → accepted answer ≡ true → (later : Board) → later ≡ (ticked b first).board → (h' : List (Option ℕ)) → h' ≡ set h p (due_at (slice_get later.places p)) → InStep h' later
  settled_tick first p f answer a ok later same h' told =
      settled (ticked b (Some p)) p (tick_keeps b p) answer (a ∙ ap (λ (o : Option ℕ). (ticked b o).answer) f) ok later (same ∙ ap (λ (o : Option ℕ). (ticked b o).board) f) h' told

  module _ (first : Option ℕ) (told : first ≡ earliest h) where
    -- what is first in the queue is first on the board
    first_of_board : first ≡ earliest (dues b.places)
    first_of_board = told ∙ first_in_step h b in_step

    -- so a tick that goes there is the board's step
    pub ticks : ticked b first ≡ step b tick
    ticks = ap (ticked b) first_of_board

    pub foremost_ran : (place : Option ℕ) → ran place ≡ (ticked b first).answer → Foremost (dues b.places) place
    foremost_ran place a = subst (Foremost (dues b.places)) (sym (ran_is b first place a ∙ first_of_board)) (foremost (dues b.places))
