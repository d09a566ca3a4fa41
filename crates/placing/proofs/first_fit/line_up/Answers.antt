use Rattle.std.proofs.Common.{◌+◌, ◌<◌, length, ap, arith}
use Rattle.heap.specs.Held.{held, room}
use Rattle.heap.proofs.Draining.{kept_on}
use Rattle.heap.proofs.Holding.{taken}
use Rattle.boards.specs.Lists.{no_record}
use Rattle.placing.proofs.Taking.{fills, filled_length}
use Rattle.placing.proofs.first_fit.line_up.Goals as goal

pub loop-index-preserved : goal.loop-index-preserved
loop-index-preserved c =
    let rs = c.args.records.now in
    let l = c.loop-index in
    let h = l.heap in
    let n = filled_length rs l.index (held h) l.auto.index-end l.invariant.entries in
    let small : length (held h) < room h = omega (arith, n, l.invariant.kept.same_room, ap (λ s. length s.now) c.new-heap.ensures.slots, c.requires, c.loop-index-test.true) in
    record {
      entries = fills rs l.index no_record (held h) (held c.push.new.self) c.loop-index-test.true l.invariant.entries (taken c.push.ensures.pushed small);
      kept = kept_on _ h _ (length (held h) + 1) (length rs) (omega (arith, n, c.loop-index-test.true)) l.invariant.kept c.push.ensures.kept;
    }
