-- Counting a run by its calls and answers alone. An event is a call with its answer.
use Rattle.std.specs.Prelude.{◌≡◌, ℕ, ◌+◌, Bool, true, false, cond, ◌&&◌, ◌||◌, List, [], ◌∷◌, Some, None, Option, ◌==◌}
use Rattle.std.specs.List.{AllByRecursion}
use Rattle.duty.specs.Sums.{total}
use Rattle.model.specs.declared.calls.Call.{Call}
use Rattle.model.specs.declared.calls.Call.TheVariants.{Arrive as arrive, Tick as tick, Finish as finish, GeneralCancel as cancel}
use Rattle.model.specs.declared.calls.Answer.{Answer}
use Rattle.model.specs.declared.calls.Answer.TheVariants.{Refused as refused, Granted as granted, Ran as ran, Finished as finished, Cancelled as cancelled}
use Rattle.model.specs.declared.calls.Event.{Event}

-- a call that is not refused is accepted
abbrev pub accepted : Answer → Bool
accepted (refused f) = false
accepted (granted deadline units) = true
accepted (ran place) = true
accepted (finished units) = true
accepted (cancelled count) = true

abbrev pub is_tick : Call → Bool
is_tick (arrive p) = false
is_tick tick = true
is_tick (finish p) = false
is_tick cancel = false

abbrev pub is_cancel : Call → Bool
is_cancel (arrive p) = false
is_cancel tick = false
is_cancel (finish p) = false
is_cancel cancel = true

abbrev pub is_arrival_at : ℕ → Call → Bool
is_arrival_at p (arrive q) = q == p
is_arrival_at p tick = false
is_arrival_at p (finish q) = false
is_arrival_at p cancel = false

abbrev pub is_finish_at : ℕ → Call → Bool
is_finish_at p (arrive q) = false
is_finish_at p tick = false
is_finish_at p (finish q) = q == p
is_finish_at p cancel = false

abbrev pub is_place : ℕ → Option ℕ → Bool
is_place p None = false
is_place p (Some q) = q == p

-- the answer names the place p
abbrev pub names : ℕ → Answer → Bool
names p (refused f) = false
names p (granted deadline units) = false
names p (ran place) = is_place p place
names p (finished units) = false
names p (cancelled count) = false

-- an accepted tick counts 1
abbrev pub ticks_in : Event → ℕ
ticks_in e = cond (is_tick e.call && accepted e.answer) 1 0

-- the clock after these events, from a fresh board on: how many ticks were accepted
abbrev pub clock : List Event → ℕ
clock es = total ticks_in es

-- a tick that answers p counts 1
abbrev pub gets : ℕ → Event → ℕ
gets p e = cond (is_tick e.call && names p e.answer) 1 0

-- how many ticks the duty at p got
abbrev pub got : ℕ → List Event → ℕ
got p es = total (gets p) es

-- an accepted arrival at p
abbrev pub arrives : ℕ → Event → Bool
arrives p e = is_arrival_at p e.call && accepted e.answer

-- how many ticks the duty at p got up to its next accepted arrival: of what follows an arrival, what its job got
abbrev pub job_got : ℕ → List Event → ℕ
job_got p [] = 0
job_got p (e ∷ es) = cond (arrives p e) 0 (gets p e + job_got p es)

-- an accepted finish at p, or a General Cancel
abbrev pub ends_job : ℕ → Event → Bool
ends_job p e = (is_finish_at p e.call && accepted e.answer) || is_cancel e.call

-- no job at p was ended by a call
abbrev pub Undisturbed : ℕ → List Event → Type 0
Undisturbed p es = AllByRecursion (λ (e : Event). ends_job p e ≡ false) es

-- no General Cancel
abbrev pub Uncancelled : List Event → Type 0
Uncancelled es = AllByRecursion (λ (e : Event). is_cancel e.call ≡ false) es
