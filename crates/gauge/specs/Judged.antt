-- What contracts say of a fair list: its timings and its cycle, and not where it lies in memory.
use Rattle.std.specs.Prelude.{ℕ, cond, List, Some, None, Option}
use Rattle.duty.specs.declared.timings.Timing.{Timing}
use Rattle.gauge.specs.Fair.{fair}
use Rattle.gauge.specs.declared.fair_list.FairList.{FairList}

-- a list and its cycle
pub record Judged : Type 0 where
  pub duties : List Timing
  pub cycle : ℕ

-- a list with its cycle where it is fair
abbrev pub judged : List Timing → ℕ → Option Judged
judged ds cycle = cond (fair ds cycle) (Some (record { duties = ds; cycle = cycle })) None

-- a fair list by its timings and its cycle
abbrev pub seen : Option FairList → Option Judged
seen (Some l) = Some (record { duties = l.duties.now; cycle = l.cycle })
seen None = None
