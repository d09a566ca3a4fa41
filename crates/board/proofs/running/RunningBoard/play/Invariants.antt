use Rattle.std.proofs.Common.{◌≡◌, ◌++◌, take, drop}
use Rattle.model.specs.Steps.{run}
use Rattle.board_state.specs.BoardOf.{board_of}
use Rattle.board.specs.Runs.{calls}
use Rattle.board.proofs.running.RunningBoard.play.Given as goal

abbrev pub invariant-loop-event : goal.invariant-loop-event
invariant-loop-event g l =
    take l.event-index l.event-items ++ run (board_of l.self.state) (calls (drop l.event-index l.event-items)) ≡ run (board_of l.initial.self.state) (calls l.initial.event-items)
