use Rattle.duty.specs.Heads.{head}
use Rattle.plans.proofs.Deciding.{only, kept}
use Rattle.plans.proofs.open.OpenPlan.close.Goals as goal

pub invariant_of-result : goal.invariant_of-result
invariant_of-result g c =
    let plan = c.args.self in
    let passes = g.G.Gauge.passed c.args.gauge in
    let few = plan.header.few_duties in
    let good = only passes (head plan.header) plan.records.now few c.requires in
    record {
      enough = good.enough;
      duties = good.duties;
      placed = λ k l. (good.on_boards k l).0;
      known = λ k l. (good.on_boards k l).1;
      kept = kept passes (head plan.header) plan.records.now few (g.met.G.Gauge.bounded c.args.gauge) c.requires;
    }

pub returns-clause-closable : goal.returns-clause-closable
returns-clause-closable g c =
    let plan = c.args.self in
    only (g.G.Gauge.passed c.args.gauge) (head plan.header) plan.records.now plan.header.few_duties c.requires
