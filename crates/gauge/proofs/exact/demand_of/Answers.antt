use Rattle.std.proofs.Common.{rules}
use Rattle.duty.specs.Demand.{demand}
use Rattle.gauge.proofs.exact.demand_of.Goals as goal

pub returns-then-t-duty : goal.returns-then-t-duty
unfolding demand
returns-then-t-duty c = search rules

pub returns : goal.returns
unfolding demand
returns c = search rules
