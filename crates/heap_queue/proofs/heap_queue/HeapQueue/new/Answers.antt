use Rattle.std.proofs.Common.{refl}
use Rattle.heap_queue.specs.Entries.{row}
use Rattle.heap_queue.proofs.heap_queue.HeapQueue.new.Goals as goal

pub returns : goal.returns
unfolding row
returns c = record { held = refl; memory = refl }
