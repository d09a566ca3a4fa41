-- What a board promises of a run: of a list of calls on a freshly loaded board, each with its answer.
-- `duties` are those of the board, at the places from 0 on.
use Rattle.std.specs.Prelude.{◌≡◌, ℕ, ◌+◌, ◌-◌, ◌*◌, ◌/◌, ◌≤◌, true, List, ◌∷◌, ◌++◌, Some}
use Rattle.std.specs.List.{slice_get}
use Rattle.duty.specs.declared.timings.Timing.{Timing}
use Rattle.gauge.specs.Shortage.{RefusedListsLeaveAJobShort}
use Rattle.model.specs.declared.calls.Call.TheVariants.{Arrive as arrive}
use Rattle.model.specs.declared.calls.Answer.{Answer}
use Rattle.model.specs.declared.calls.Answer.TheVariants.{Granted as granted}
use Rattle.model.specs.declared.calls.Event.{Event}
use Rattle.model.specs.Events.{accepted, clock, got, job_got, Undisturbed, Uncancelled}

-- What an arrival is owed that was accepted at the place p with this answer, after the events `before` and followed by `after`.
pub record Owed (duties : List Timing) (p : ℕ) (answer : Answer) (before after : List Event) : Type 0 where
  -- p is the place of a duty
  pub duty : Timing
  pub there : slice_get duties p ≡ Some duty
  -- the answer is when the job is due and what it costs
  pub answered : answer ≡ granted (clock before + duty.deadline) duty.cost
  -- the job never gets more than its cost
  pub never_more : job_got p after ≤ duty.cost
  -- once the clock has reached its deadline, it has by then got just its cost, unless a finish or a General Cancel came between
  pub by_its_deadline : (between rest : List Event) → after ≡ between ++ rest → clock before + duty.deadline ≤ clock before + clock between → Undisturbed p between → job_got p between ≡ duty.cost

abbrev pub EachJobHasItsCostByItsDeadline : List Timing → List Event → Type 0
EachJobHasItsCostByItsDeadline duties events =
    (before after : List Event) (p : ℕ) (answer : Answer) →
    events ≡ before ++ (record { call = arrive p; answer = answer } ∷ after) → accepted answer ≡ true →
    Owed duties p answer before after

-- of w ≥ 1 accepted ticks in succession, with no General Cancel between, a duty gets at most cost × (1 + (w + deadline − 2) ÷ spacing)
abbrev pub TicksInAWindowAreBounded : List Timing → List Event → Type 0
TicksInAWindowAreBounded duties events =
    (before window after : List Event) (p : ℕ) (duty : Timing) →
    events ≡ before ++ (window ++ after) → slice_get duties p ≡ Some duty → Uncancelled window → 1 ≤ clock window →
    got p window ≤ duty.cost * (1 + (clock window + duty.deadline - 2) / duty.spacing)

-- the three promises: two of this run, and that a list which the exact gauge refuses could not be served by anyone
pub record Promises (duties : List Timing) (events : List Event) : Type 0 where
  pub each_job : EachJobHasItsCostByItsDeadline duties events
  pub windows : TicksInAWindowAreBounded duties events
  pub refused_lists : RefusedListsLeaveAJobShort
