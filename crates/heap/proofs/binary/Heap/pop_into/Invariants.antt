use Rattle.std.proofs.Common.{length, take}
use Rattle.heap.specs.Order.{Heaped}
use Rattle.heap.specs.Held.{held}
use Rattle.heap.specs.Calls.{Moved, Kept}
use Rattle.heap.specs.Leaving.{InOrder}
use Rattle.heap.proofs.binary.Heap.pop_into.Given as goal

-- n entries have left so far
abbrev pub invariant-loop-n : goal.invariant-loop-n
invariant-loop-n g l = record {
  moved : Moved l.initial.self l.initial.out l.n l.self l.out;
  kept : Kept (length (held l.initial.self)) l.initial.self l.self;
  in_order : Heaped g.T.Entry.upto (held l.initial.self) → InOrder g.T.Entry.key g.T.Entry.upto (held l.initial.self) (take l.n l.out) (held l.self);
}
