use Rattle.gauge.specs.Cycles.{cycle_decides, exact_decides}
use Rattle.gauge.proofs.Shortage.{refused_lists_leave_a_job_short}
use Rattle.gauge.proofs.exact.ExactGauge.passes.Goals as goal

pub returns-clause-cycles : goal.returns-clause-cycles
returns-clause-cycles c = cycle_decides

pub returns-clause-decides : goal.returns-clause-decides
returns-clause-decides c = exact_decides

pub returns-clause-shortage : goal.returns-clause-shortage
returns-clause-shortage c = refused_lists_leave_a_job_short
