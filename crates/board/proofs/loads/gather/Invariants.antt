use Rattle.std.proofs.Common.{◌≡◌, take}
use Rattle.boards.specs.Lists.{on_board}
use Rattle.queue.specs.Places.{places as width}
use Rattle.model.specs.Boards.{loaded}
use Rattle.board_state.specs.BoardOf.{board_of}
use Rattle.board.proofs.loads.gather.Given as goal

abbrev pub invariant-loop-record : goal.invariant-loop-record
invariant-loop-record l = board_of l.state ≡ loaded (take width (on_board l.board (take l.record-index l.records)))
