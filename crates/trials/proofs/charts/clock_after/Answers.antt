use Rattle.std.proofs.Common.{rules}
use Rattle.trials.proofs.Counts.{clock_counts}
use Rattle.trials.proofs.charts.clock_after.Goals as goal

pub returns : goal.returns
returns c = search (rules, clock_counts)
