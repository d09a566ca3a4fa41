use Rattle.std.proofs.Common.{length, ap, ◌∙◌, arith}
use Rattle.std.proofs.lemmas.List.{take_all}
use Rattle.model.specs.Events.{clock}
use Rattle.trials.proofs.Counts.{at_tick, at_other}
use Rattle.trials.proofs.charts.fold_length.Goals as goal
use Rattle.trials.proofs.charts.fold_length.Goals.{then-is_tick+else-ticks-eq-FOLD, else-is_tick}

pub returns-then-ticks-eq-FOLD : goal.returns-then-ticks-eq-FOLD
returns-then-ticks-eq-FOLD c =
    let l = c.loop-i in
    let more = at_tick c.args.events.now l.i l.ticks _ c.is_tick.result c.loop-i-test.true l.invariant.0 c.is_tick.ensures c.if-is_tick.true in
    record { within = omega arith; full = λ h. omega (arith, more, c.if-ticks-eq-FOLD.true); few = omega (arith, more, c.if-ticks-eq-FOLD.true) }

pub loop-i-preserved : goal.loop-i-preserved
loop-i-preserved c =
    let l = c.loop-i in
    elim c.if-is_tick.branch [
      | then-is_tick+else-ticks-eq-FOLD w ↦
          (w.ticks-is ∙ at_tick c.args.events.now l.i l.ticks _ c.is_tick.result c.loop-i-test.true l.invariant.0 c.is_tick.ensures w.if-is_tick.true, omega (arith, w.ticks-is, w.if-ticks-eq-FOLD.false, l.invariant.1))
      | else-is_tick w ↦
          (w.ticks-is ∙ at_other c.args.events.now l.i l.ticks _ c.is_tick.result c.loop-i-test.true l.invariant.0 c.is_tick.ensures w.if-is_tick.false, omega (arith, w.ticks-is, l.invariant.1))
    ]

pub returns : goal.returns
returns c =
    let es = c.args.events.now in
    let all = ap clock (take_all (length es) es (omega arith)) in
    let so_far = c.loop-i.invariant.0 ∙ ap clock (take_all c.loop-i.i es c.loop-i-test.false) in
    record { within = omega arith; full = λ h. absurd (omega arith); few = omega (arith, all, so_far, c.loop-i.invariant.1) }
