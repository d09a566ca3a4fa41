use Rattle.std.proofs.Common.{◌≡◌, map, take}
use Rattle.queue.specs.Places.{places as width}
use Rattle.model.specs.Boards.{loaded}
use Rattle.board_state.specs.BoardOf.{board_of}
use Rattle.board_state.specs.Views.{timing_of}
use Rattle.board_state.proofs.states.State.new.Given as goal

abbrev pub invariant-loop-duty : goal.invariant-loop-duty
invariant-loop-duty l = board_of l.state ≡ loaded (take width (map timing_of (take l.duty-index l.duty-items)))
