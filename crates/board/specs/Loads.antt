-- What is loaded from a closed plan, and when loading is refused.
use Rattle.std.specs.Prelude.{ℕ, cond, ◌&&◌, List, take, Ok, Err, Result, nat_le}
use Rattle.fault.specs.declared.Cause.TheVariants.{UnknownBoard}
use Rattle.fault.specs.declared.Fault.{Fault}
use Rattle.fault.specs.declared.Layer.TheVariants.{Call}
use Rattle.fault.specs.Faults.{fault}
use Rattle.duty.specs.declared.timings.Timing.{Timing}
use Rattle.boards.specs.Lists.{on_board}
use Rattle.gauge.specs.declared.gauges.Gauge.{Ghosts}
use Rattle.plans.specs.declared.closed.ClosedPlan.{ClosedPlan}

-- the duties of the board of this number in the plan, in the order of their lines
abbrev pub list_of : {G : Type 0} {g : Ghosts G} → ClosedPlan G g → ℕ → List Timing
list_of plan number = on_board number (take plan.header.duties plan.records.now)

-- boards count from 1 to the header's number of boards
abbrev pub load_fault : ℕ → ℕ → Result (Unit {0}) Fault
load_fault number boards = cond (nat_le 1 number && nat_le number boards) (Ok tt) (Err (fault UnknownBoard 0 0 Call))
