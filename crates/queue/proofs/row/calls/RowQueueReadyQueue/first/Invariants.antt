use Rattle.std.proofs.Common.{◌≡◌, drop, None}
use Rattle.std.specs.Option.{option_map}
use Rattle.queue.specs.First.{scan}
use Rattle.queue.specs.Views.{due}
use Rattle.queue.proofs.row.calls.RowQueueReadyQueue.first.Given as goal

abbrev pub invariant-loop-place : goal.invariant-loop-place
invariant-loop-place l = scan (option_map due l.best) l.place (drop l.place l.self.slots) ≡ scan None 0 l.self.slots
