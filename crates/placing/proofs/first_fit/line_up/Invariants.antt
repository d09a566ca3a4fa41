use Rattle.std.proofs.Common.{length, take}
use Rattle.std.specs.List.Sorted.{IsPermutation}
use Rattle.heap.specs.Calls.{Kept}
use Rattle.heap.specs.Held.{held}
use Rattle.placing.specs.Order.{lined}
use Rattle.placing.proofs.first_fit.line_up.Given as goal

abbrev pub invariant-loop-index : goal.invariant-loop-index
invariant-loop-index l = record {
  entries : IsPermutation (lined 0 (take l.index l.records)) (held l.heap);
  kept : Kept (length l.records) l.initial.heap l.heap;
}
