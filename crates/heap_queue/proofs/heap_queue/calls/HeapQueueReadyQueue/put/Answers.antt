use Rattle.queue.proofs.Scanning.{refused_keeps}
use Rattle.heap_queue.specs.Views.{entries, held_by}
use Rattle.heap_queue.specs.Rows.{length_row}
use Rattle.heap_queue.proofs.heap_queue.calls.HeapQueueReadyQueue.put.Goals as goal

pub returns-in_err-check-clause-after : goal.returns-in_err-check-clause-after
returns-in_err-check-clause-after c = let q = c.args.self.now in refused_keeps (held_by q) c.args.place _ _ (length_row (entries q)) c.in_err-check.ensures
