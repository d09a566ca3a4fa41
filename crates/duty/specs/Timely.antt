-- Which timings a duty may have.
use Rattle.std.specs.Prelude.{Bool, ◌&&◌, nat_le}
use Rattle.duty.specs.declared.timings.Timing.{Timing}
use Rattle.duty.specs.Limits.{longest}

-- 1 ≤ cost ≤ deadline ≤ spacing ≤ 1,000,000
abbrev pub timely : Timing → Bool
timely d =
    nat_le 1 d.cost && (nat_le d.cost d.deadline && (nat_le d.deadline d.spacing && nat_le d.spacing longest))
