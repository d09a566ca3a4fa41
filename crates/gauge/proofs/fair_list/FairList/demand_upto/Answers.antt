use Rattle.std.proofs.Common.{arith}
use Rattle.duty.specs.Demand.{demand}
use Rattle.gauge.specs.Totals.{sum_more, sum_all}
use Rattle.gauge.specs.Fairness.{fair_list, spacing_at}
use Rattle.gauge.specs.Demands.{demands_fit}
use Rattle.gauge.proofs.fair_list.FairList.demand_upto.Goals as goal

pub demand_of-sum-requires : goal.demand_of-sum-requires
demand_of-sum-requires c =
    let l = c.args.self.now in
    spacing_at _ _ _ c.loop-duty-test.true (fair_list l.duties.now l.cycle l.judged).each_timely

pub loop-duty-preserved : goal.loop-duty-preserved
loop-duty-preserved c =
    sum_more (λ d. demand d c.args.t) c.args.self.now.duties.now c.loop-duty.duty-index c.loop-duty.sum c.loop-duty.invariant _ c.demand_of-sum.result c.loop-duty-test.true c.demand_of-sum.ensures

pub returns : goal.returns
returns c =
    sum_all (λ d. demand d c.args.t) c.args.self.now.duties.now c.loop-duty.duty-index c.loop-duty.sum c.loop-duty.invariant c.loop-duty-test.false

pub overflow_add-sum : goal.overflow_add-sum
overflow_add-sum c =
    let l = c.args.self.now in
    let w = fair_list l.duties.now l.cycle l.judged in
    let more = sum_more (λ d. demand d c.args.t) l.duties.now c.loop-duty.duty-index c.loop-duty.sum c.loop-duty.invariant _ c.demand_of-sum.result c.loop-duty-test.true c.demand_of-sum.ensures in
    omega (arith, more, demands_fit l.duties.now c.args.t w.few w.each_timely (omega arith))
