use Rattle.std.proofs.Common.{sym, arith}
use Rattle.gauge.specs.Fairness.{fair_list}
use Rattle.gauge.specs.Cycles.{scan_fails, scan_more, scan_passes}
use Rattle.gauge.proofs.fair_list.FairList.scan.Goals as goal

pub returns-then-h-t : goal.returns-then-h-t
returns-then-h-t c =
    let l = c.args.self.now in
    sym (scan_fails l.duties.now l.cycle c.loop-t.t c.demand_upto-h.result c.demand_upto-h.ensures (fair_list _ _ l.judged) c.loop-t.invariant.0 (omega arith))

pub returns-then-h-eq0 : goal.returns-then-h-eq0
returns-then-h-eq0 c =
    let l = c.args.self.now in
    sym (scan_passes l.duties.now l.cycle c.loop-t.t c.demand_upto-h.result c.demand_upto-h.ensures (omega arith) c.loop-t.invariant.1)

pub loop-t-preserved : goal.loop-t-preserved
loop-t-preserved c =
    let l = c.args.self.now in
    let more = scan_more l.duties.now l.cycle c.loop-t.t c.demand_upto-h.result c.demand_upto-h.ensures (omega arith) c.loop-t.invariant.1 in
    (omega (arith, c.loop-t.invariant.0), λ s past to. more s (omega arith) to)
