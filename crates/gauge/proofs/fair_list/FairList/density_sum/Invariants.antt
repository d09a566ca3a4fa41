use Rattle.std.proofs.Common.{◌≡◌, ◌+◌, drop}
use Rattle.duty.specs.Sums.{total}
use Rattle.gauge.specs.Density.{density}
use Rattle.gauge.proofs.fair_list.FairList.density_sum.Given as goal

abbrev pub invariant-loop-duty : goal.invariant-loop-duty
invariant-loop-duty l =
    l.sum + total density (drop l.duty-index l.self.duties.now) ≡ total density l.self.duties.now
