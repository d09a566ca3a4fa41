use Rattle.std.proofs.Common.{length}
use Rattle.trial.proofs.play.Trial.play.Given as goal

abbrev pub decreases-loop-left : goal.decreases-loop-left
decreases-loop-left g l = length l.left
