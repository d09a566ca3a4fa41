-- What each call does to a board, and what it answers.
use Rattle.std.specs.Prelude.{ℕ, ◌+◌, ◌-◌, Bool, false, cond, List, [], ◌∷◌, map, Some, None, Option, nat_lt, slice_set}
use Rattle.std.specs.List.{slice_get}
use Rattle.fault.specs.declared.Cause.{Cause}
use Rattle.fault.specs.declared.Cause.TheVariants.{NoSuchPlace, TooSoon, NoJob, ClockFull}
use Rattle.fault.specs.declared.Layer.TheVariants.{Call as in_call}
use Rattle.fault.specs.Faults.{fault}
use Rattle.duty.specs.declared.timings.Timing.{Timing}
use Rattle.queue.specs.First.{earliest}
use Rattle.model.specs.declared.jobs.Job.{Job}
use Rattle.model.specs.declared.calls.Call.{Call}
use Rattle.model.specs.declared.calls.Call.TheVariants.{Arrive as arrive, Tick as tick, Finish as finish, GeneralCancel as cancel}
use Rattle.model.specs.declared.calls.Answer.{Answer}
use Rattle.model.specs.declared.calls.Answer.TheVariants.{Refused as refused, Granted as granted, Ran as ran, Finished as finished, Cancelled as cancelled}
use Rattle.model.specs.declared.calls.Event.{Event}
use Rattle.model.specs.Boards.{Place, Board, dues, jobs}

-- the last reading of the clock
abbrev pub clock_limit : ℕ
clock_limit = 1000000000000

-- at the clock c, the spacing has not passed since the last arrival
abbrev pub too_soon : ℕ → ℕ → Option ℕ → Bool
too_soon c spacing None = false
too_soon c spacing (Some last) = nat_lt c (last + spacing)

-- a job that got one tick: it has one unit less, and ends at none left
abbrev pub spent : Option Job → Option Job
spent None = None
spent (Some j) = cond (nat_lt 1 j.units) (Some (record { deadline = j.deadline; units = j.units - 1 })) None

-- the job of a place after an accepted call that concerns the place, made at the clock c
abbrev pub job_after : ℕ → Timing → Option Job → Call → Option Job
job_after c d j (arrive p) = Some (record { deadline = c + d.deadline; units = d.cost })
job_after c d j tick = spent j
job_after c d j (finish p) = None
job_after c d j cancel = None

-- and its last accepted arrival
abbrev pub last_after : ℕ → Option ℕ → Call → Option ℕ
last_after c last (arrive p) = Some c
last_after c last tick = last
last_after c last (finish p) = last
last_after c last cancel = None

abbrev pub after : ℕ → Call → Place → Place
after c call x = record { duty = x.duty; last = last_after c x.last call; job = job_after c x.duty x.job call }

-- the board after a call, and the answer
pub record Outcome : Type 0 where
  pub board : Board
  pub answer : Answer

-- a refused call leaves the board as it was
abbrev pub refusing : Board → Cause → Outcome
refusing b cause = record { board = b; answer = refused (fault cause 0 0 in_call) }

-- an accepted call that concerns the place p, which was x
abbrev pub accepting : Board → Call → ℕ → Place → Answer → Outcome
accepting b call p x answer = record {
  board = record { clock = b.clock; places = slice_set b.places p (after b.clock call x) };
  answer = answer;
}

-- arrive: the place, if there is one, may not have arrived less than a spacing ago
abbrev pub arriving : Board → ℕ → Option Place → Outcome
arriving b p None = refusing b NoSuchPlace
arriving b p (Some x) =
    cond (too_soon b.clock x.duty.spacing x.last) (refusing b TooSoon) (accepting b (arrive p) p x (granted (b.clock + x.duty.deadline) x.duty.cost))

-- finish: a job has to wait there
abbrev pub finishing_job : Board → ℕ → Place → Option Job → Outcome
finishing_job b p x None = refusing b NoJob
finishing_job b p x (Some j) = accepting b (finish p) p x (finished j.units)

abbrev pub finishing : Board → ℕ → Option Place → Outcome
finishing b p None = refusing b NoSuchPlace
finishing b p (Some x) = finishing_job b p x x.job

-- the places after a tick that the place p got
abbrev pub served_at : Board → ℕ → Option Place → List Place
served_at b p None = b.places
served_at b p (Some x) = slice_set b.places p (after b.clock tick x)

abbrev pub served : Board → Option ℕ → List Place
served b None = b.places
served b (Some p) = served_at b p (slice_get b.places p)

abbrev pub ticking : Board → Option ℕ → Outcome
ticking b first = record { board = record { clock = b.clock + 1; places = served b first }; answer = ran first }

-- a tick of which `first` is told to be the first place
abbrev pub ticked : Board → Option ℕ → Outcome
ticked b first = cond (nat_lt b.clock clock_limit) (ticking b first) (refusing b ClockFull)

abbrev pub cancelling : Board → Outcome
cancelling b = record {
  board = record { clock = b.clock; places = map (after b.clock cancel) b.places };
  answer = cancelled (jobs b.places);
}

-- earliest deadline first: a tick goes to the job with the smallest deadline, at the lower place where equal
abbrev pub step : Board → Call → Outcome
step b (arrive p) = arriving b p (slice_get b.places p)
step b tick = ticked b (earliest (dues b.places))
step b (finish p) = finishing b p (slice_get b.places p)
step b cancel = cancelling b

-- calls one after another, each with its answer
abbrev pub run : Board → List Call → List Event
run b [] = []
run b (c ∷ cs) = record { call = c; answer = (step b c).answer } ∷ run (step b c).board cs
