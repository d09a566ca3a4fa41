-- The demand bound function: what jobs that arrive from some instant on, and are due within t ticks of it, can cost.
use Rattle.std.specs.Prelude.{ℕ, ◌+◌, ◌-◌, ◌*◌, ◌/◌, cond, List, nat_lt}
use Rattle.duty.specs.declared.timings.Timing.{Timing}
use Rattle.duty.specs.Sums.{total}

-- the demand of one duty up to t: none before its deadline, and from then on a cost for each spacing begun
unfoldable pub demand : Timing → ℕ → ℕ
demand d t = cond (nat_lt t d.deadline) 0 (d.cost * (1 + (t - d.deadline) / d.spacing))

-- the demand of a list
abbrev pub demands : List Timing → ℕ → ℕ
demands ds t = total (λ d. demand d t) ds
