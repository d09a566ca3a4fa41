-- What a whole run does.
use Rattle.std.specs.Prelude.{◌≡◌, ℕ, Bool, List, map, take, Option, Result, MatchResult}
use Rattle.fault.specs.declared.Fault.{Fault}
use Rattle.fault.specs.Faults.{then}
use Rattle.duty.specs.declared.records.Record.{Record}
use Rattle.duty.specs.declared.timings.Timing.{Timing}
use Rattle.duty.specs.Heads.{Head}
use Rattle.boards.specs.Lists.{on_board}
use Rattle.plans.specs.Closing.{close_fault}
use Rattle.queue.specs.Places.{all_empty}
use Rattle.model.specs.declared.calls.Call.{Call}
use Rattle.model.specs.declared.calls.Event.{Event}
use Rattle.model.specs.Boards.{loaded}
use Rattle.model.specs.Promises.{Promises}
use Rattle.model.specs.Steps.{run}
use Rattle.board.specs.Loads.{load_fault}

-- the calls of events
abbrev pub calls : List Event → List Call
calls events = map (λ (e : Event). e.call) events

-- the duties of the board of this number among the header's records, in the order of their lines
abbrev pub listed : Head → List Record → ℕ → List Timing
listed h rs number = on_board number (take h.duties rs)

-- why a board of a plan that is still open cannot be run: it cannot be closed, or has no board of this number
abbrev pub run_fault : (List Timing → ℕ → Bool) → Head → List Record → ℕ → Result (Unit {0}) Fault
run_fault passes h rs number = then (close_fault passes h rs) (λ _. load_fault number h.boards)

-- The calls `before` were made on a board freshly loaded with the duties, and `after` has them with their answers.
pub record Run {Q : Type 0} (held : Q → List (Option ℕ)) (duties : List Timing) (before after : List Event) (queue : Q) : Type 0 where
  -- the calls are those handed in, and each answer is the one that the definition of a board gives
  pub answers : after ≡ run (loaded duties) (calls before)
  -- what that means, counted by calls and answers alone
  pub promises : Promises duties after
  -- the queue is empty again
  pub emptied : held queue ≡ all_empty

-- nothing was run: events and queue are as they were
pub record NotRun {Q : Type 0} (given : Q) (before after : List Event) (queue : Q) : Type 0 where
  pub events : after ≡ before
  pub same_queue : queue ≡ given

-- what came of running the calls `before` on a board with the duties and the queue `given`: a run, or a refusal
abbrev pub Ran : {Q : Type 0} → (Q → List (Option ℕ)) → List Timing → List Event → List Event → Q → Q → Result (Unit {0}) Fault → Type 0
Ran held duties before after given queue answer =
    MatchResult answer (λ _. Run held duties before after queue) (λ _. NotRun given before after queue)
