-- What a call does to a running board.
use Rattle.std.specs.Prelude.{◌≡◌}
use Rattle.queue.specs.declared.ready.ReadyQueue.{Ghosts}
use Rattle.model.specs.declared.calls.Answer.{Answer}
use Rattle.model.specs.declared.calls.Call.{Call}
use Rattle.model.specs.Steps.{step}
use Rattle.board_state.specs.BoardOf.{board_of}
use Rattle.board.specs.declared.running.RunningBoard.{RunningBoard}

-- the answer and the board are those of the definition's step; that the queue is in step after it is part of the board's type
pub record Called {Q : Type 0} {g : Ghosts Q} (call : Call) (before : RunningBoard Q g) (answer : Answer) (after : RunningBoard Q g) : Type 0 where
  pub answer_is : answer ≡ (step (board_of before.state) call).answer
  pub board_is : board_of after.state ≡ (step (board_of before.state) call).board
