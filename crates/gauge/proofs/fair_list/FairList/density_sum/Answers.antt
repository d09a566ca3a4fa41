use Rattle.std.proofs.Common.{arith}
use Rattle.gauge.specs.Density.{density}
use Rattle.gauge.specs.Totals.{sum_more, sum_all}
use Rattle.gauge.specs.Fairness.{fair_list, deadline_at, all_timed}
use Rattle.gauge.specs.Dense.{densities_most}
use Rattle.gauge.proofs.fair_list.FairList.density_sum.Goals as goal

pub density_of-sum-requires : goal.density_of-sum-requires
density_of-sum-requires c =
    let l = c.args.self.now in
    deadline_at _ _ _ c.loop-duty-test.true (fair_list l.duties.now l.cycle l.judged).each_timely

pub loop-duty-preserved : goal.loop-duty-preserved
loop-duty-preserved c =
    sum_more density c.args.self.now.duties.now c.loop-duty.duty-index c.loop-duty.sum c.loop-duty.invariant _ c.density_of-sum.result c.loop-duty-test.true c.density_of-sum.ensures

pub returns : goal.returns
returns c =
    sum_all density c.args.self.now.duties.now c.loop-duty.duty-index c.loop-duty.sum c.loop-duty.invariant c.loop-duty-test.false

pub overflow_add-sum : goal.overflow_add-sum
overflow_add-sum c =
    let l = c.args.self.now in
    let w = fair_list l.duties.now l.cycle l.judged in
    let more = sum_more density l.duties.now c.loop-duty.duty-index c.loop-duty.sum c.loop-duty.invariant _ c.density_of-sum.result c.loop-duty-test.true c.density_of-sum.ensures in
    omega (arith, more, densities_most l.duties.now (all_timed l.duties.now w.each_timely), w.few)
