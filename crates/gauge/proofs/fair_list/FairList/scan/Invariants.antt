use Rattle.std.proofs.Common.{ℕ, ◌<◌, ◌≤◌}
use Rattle.duty.specs.Demand.{demands}
use Rattle.gauge.proofs.fair_list.FairList.scan.Given as goal

abbrev pub invariant-loop-t : goal.invariant-loop-t
invariant-loop-t l = (l.t ≤ l.self.cycle) × ((s : ℕ) → l.t < s → s ≤ l.self.cycle → demands l.self.duties.now s ≤ s)

abbrev pub decreases-loop-t : goal.decreases-loop-t
decreases-loop-t l = l.t
