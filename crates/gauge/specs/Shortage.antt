-- What it means that nobody can serve a list of duties: however the ticks are given out, a job is left short.
use Rattle.std.specs.Prelude.{◌≡◌, ℕ, ◌+◌, ◌*◌, ◌<◌, ◌≤◌, true, false, cond, ◌&&◌, List, length, Some, None, Option, ◌==◌}
use Rattle.std.specs.List.{slice_get}
use Rattle.duty.specs.declared.timings.Timing.{Timing}
use Rattle.duty.specs.Sums.{total}
use Rattle.gauge.specs.Fair.{fair}
use Rattle.gauge.specs.Exact.{exact_passed}

-- one arrival's work, where every duty arrives at clock 0 and then once each spacing: the duty's place in the list and the round, both counted from 0
pub record Job : Type 0 where
  pub place : ℕ
  pub round : ℕ

-- the clock at which a duty's job of a round is due: it arrives at round × spacing, and is due a deadline later
abbrev pub due : Timing → ℕ → ℕ
due d round = round * d.spacing + d.deadline

-- a way of giving out ticks: for each clock from 0 on the job that gets the tick, whether it has arrived or not, or none
abbrev pub Way : Type 0
Way = List (Option Job)

-- what a job gets of one tick: 1 where the tick is given to it, else 0
abbrev pub share : Job → Option Job → ℕ
share job None = 0
share job (Some given) = cond (given.place == job.place && given.round == job.round) 1 0

-- how many ticks a way gives to a job
abbrev pub ticks : Job → Way → ℕ
ticks job way = total (share job) way

-- a job of the list that is due by t, and gets fewer ticks than it costs
pub record Short (ds : List Timing) (t : ℕ) (way : Way) : Type 0 where
  pub job : Job
  pub duty : Timing
  pub in_place : slice_get ds job.place ≡ Some duty
  pub due_by : due duty job.round ≤ t
  pub lacking : ticks job way < duty.cost

-- at some t of the first cycle, every way of giving out the t ticks before it leaves a job short
pub record Hopeless (ds : List Timing) (cycle : ℕ) : Type 0 where
  pub t : ℕ
  pub in_cycle : t ≤ cycle
  pub each_way : (way : Way) → length way ≡ t → Short ds t way

-- a fair list that exact refuses can be served by nobody
abbrev pub RefusedListsLeaveAJobShort : Type 0
RefusedListsLeaveAJobShort =
    (ds : List Timing) (cycle : ℕ) → fair ds cycle ≡ true → exact_passed ds cycle ≡ false → Hopeless ds cycle
