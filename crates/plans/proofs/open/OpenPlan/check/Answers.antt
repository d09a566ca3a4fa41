use Rattle.plans.proofs.Deciding.{decides}
use Rattle.plans.proofs.open.OpenPlan.check.Goals as goal

pub returns-clause-law : goal.returns-clause-law
returns-clause-law g c = decides _ _ _ c.args.self.now.header.few_duties c.check_plan.result c.check_plan.ensures
