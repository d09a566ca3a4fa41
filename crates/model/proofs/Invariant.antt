-- What every state of a board keeps: for each instant t ahead, the work that is due by then, with what may
-- still arrive and be due by then, fits into the time that is left.
use Rattle.std.proofs.Common.{◌≡◌, ℕ, ◌+◌, ◌-◌, ◌≤◌, max, cond, leb, Some, None, Option}
use Rattle.std.specs.List.{AllByRecursion}
use Rattle.duty.specs.declared.timings.Timing.{Timing}
use Rattle.duty.specs.Demand.{demand}
use Rattle.duty.specs.Sums.{total}
use Rattle.gauge.specs.Fairness.{Timed}
use Rattle.model.specs.declared.jobs.Job.{Job}
use Rattle.model.specs.Boards.{Place, Board}

-- the units left of a job that is due by t
abbrev pub due_by : ℕ → Option Job → ℕ
due_by t None = 0
due_by t (Some j) = cond (leb j.deadline t) j.units 0

-- the earliest clock at which the place can arrive next
abbrev pub next_after : ℕ → ℕ → Option ℕ → ℕ
next_after c spacing None = c
next_after c spacing (Some last) = max c (last + spacing)

abbrev pub next : ℕ → Place → ℕ
next c x = next_after c x.duty.spacing x.last

-- what the place may still ask for by t
abbrev pub load : ℕ → ℕ → Place → ℕ
load c t x = due_by t x.job + demand x.duty (t - next c x)

-- a job that waits came with the last arrival, and has units left, at most its cost
abbrev pub JobSound : ℕ → Timing → Option ℕ → Option Job → Type 0
JobSound c d None None = Unit {0}
JobSound c d None (Some j) = ⊥
JobSound c d (Some last) None = last ≤ c
JobSound c d (Some last) (Some j) = (last ≤ c) × (j.deadline ≡ last + d.deadline) × (1 ≤ j.units) × (j.units ≤ d.cost)

pub record Sound (c : ℕ) (x : Place) : Type 0 where
  pub timed : Timed x.duty
  pub job : JobSound c x.duty x.last x.job

pub record Kept (b : Board) : Type 0 where
  pub bounded : (t : ℕ) → total (λ (x : Place). demand x.duty t) b.places ≤ t
  pub fits : (t : ℕ) → b.clock ≤ t → total (load b.clock t) b.places ≤ t - b.clock
  pub sound : AllByRecursion (Sound b.clock) b.places
