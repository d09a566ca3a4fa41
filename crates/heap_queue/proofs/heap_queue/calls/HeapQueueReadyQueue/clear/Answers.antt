use Rattle.std.proofs.Common.{refl}
use Rattle.heap_queue.specs.Entries.{row}
use Rattle.heap_queue.proofs.heap_queue.calls.HeapQueueReadyQueue.clear.Goals as goal

pub returns : goal.returns
unfolding row
returns c = record { after = refl; room = refl }
