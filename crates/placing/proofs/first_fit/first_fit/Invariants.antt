use Rattle.std.proofs.Common.{◌≡◌, ◌<◌, ◌≤◌, length}
use Rattle.std.specs.List.{AllByRecursion}
use Rattle.heap.specs.Calls.{Kept}
use Rattle.heap.specs.Held.{held}
use Rattle.placing.specs.FirstFit.{placed}
use Rattle.placing.specs.Order.{taken}
use Rattle.placing.specs.Outcome.{first_fit}
use Rattle.placing.proofs.first_fit.first_fit.Given as goal

-- what is left on the heap, placed over the records as they stand, gives the whole
abbrev pub invariant-loop-next : goal.invariant-loop-next
invariant-loop-next g l = record {
  within : AllByRecursion (λ e. e.index < length l.fn.records) (held l.heap);
  few : length (held l.heap) ≤ length l.fn.records;
  left : placed (g.G.Gauge.passed l.gauge) l.header.boards l.header.cycle l.records (taken (held l.heap)) ≡ first_fit (g.G.Gauge.passed l.gauge) l.header.boards l.header.cycle l.fn.records;
  kept : Kept (length l.fn.records) l.initial.heap l.heap;
}

abbrev pub decreases-loop-next : goal.decreases-loop-next
decreases-loop-next g l = length (held l.heap)
