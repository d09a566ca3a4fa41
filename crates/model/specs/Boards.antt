-- The running board: a clock, and for each place its duty, its last accepted arrival and its job, if one waits.
use Rattle.std.specs.Prelude.{ℕ, List, map, count_by, None, Option, is_some}
use Rattle.std.specs.Option.{option_map}
use Rattle.duty.specs.declared.timings.Timing.{Timing}
use Rattle.model.specs.declared.jobs.Job.{Job}

pub record Place : Type 0 where
  pub duty : Timing
  pub last : Option ℕ
  pub job : Option Job

pub record Board : Type 0 where
  pub clock : ℕ
  pub places : List Place

-- a place at which nothing has arrived yet
abbrev pub fresh : Timing → Place
fresh d = record { duty = d; last = None; job = None }

-- a board just loaded with a list: its duties at the places from 0 on, in this order
abbrev pub loaded : List Timing → Board
loaded ds = record { clock = 0; places = map fresh ds }

-- the deadline of the job, if one waits
abbrev pub due : Option Job → Option ℕ
due job = option_map (λ (j : Job). j.deadline) job

-- place by place, the deadline of the job that waits there
abbrev pub dues : List Place → List (Option ℕ)
dues xs = map (λ (x : Place). due x.job) xs

-- how many jobs wait
abbrev pub jobs : List Place → ℕ
jobs xs = count_by (λ (x : Place). is_some x.job) xs
