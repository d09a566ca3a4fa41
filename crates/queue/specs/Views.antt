-- What the code keeps while it looks for the first place.
use Rattle.queue.specs.declared.row.calls.Waiting.{Waiting}
use Rattle.queue.specs.First.{Due}

abbrev pub due : Waiting → Due
due w = record { place = w.place; deadline = w.deadline }
