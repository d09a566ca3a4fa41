-- Which lists a gauge judges at all.
use Rattle.std.specs.Prelude.{ℕ, ◌%◌, Bool, ◌&&◌, List, length, ◌==◌, nat_le}
use Rattle.duty.specs.declared.timings.Timing.{Timing}
use Rattle.duty.specs.Limits.{longest, most_duties}
use Rattle.duty.specs.Timely.{timely}
use Rattle.gauge.specs.Each.{each}

-- a duty's timing whose spacing divides the cycle
abbrev pub fair_timing : ℕ → Timing → Bool
fair_timing cycle d = timely d && cycle % d.spacing == 0

-- at most 64 duties, and a cycle from 1 to 1,000,000
abbrev pub in_limits : ℕ → ℕ → Bool
in_limits count cycle = nat_le count most_duties && (nat_le 1 cycle && nat_le cycle longest)

-- a list within these limits, of duties whose spacings divide the cycle
abbrev pub fair : List Timing → ℕ → Bool
fair ds cycle = in_limits (length ds) cycle && each (fair_timing cycle) ds
