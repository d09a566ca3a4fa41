use Rattle.std.proofs.Common.{◌≡◌, ◌<◌, take}
use Rattle.model.specs.Events.{clock}
use Rattle.trials.specs.Folds.{fold}
use Rattle.trials.proofs.charts.fold_length.Given as goal

abbrev pub invariant-loop-i : goal.invariant-loop-i
invariant-loop-i l = (l.ticks ≡ clock (take l.i l.events)) × (l.ticks < fold)
