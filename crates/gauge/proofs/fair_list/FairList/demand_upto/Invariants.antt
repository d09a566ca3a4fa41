use Rattle.std.proofs.Common.{◌≡◌, ◌+◌, drop}
use Rattle.duty.specs.Demand.{demands}
use Rattle.gauge.proofs.fair_list.FairList.demand_upto.Given as goal

abbrev pub invariant-loop-duty : goal.invariant-loop-duty
invariant-loop-duty l =
    l.sum + demands (drop l.duty-index l.self.duties.now) l.t ≡ demands l.self.duties.now l.t
