use Rattle.std.specs.Slice.Iter.{split_inclusive_rest}
use Rattle.trials.proofs.ByLine.{Reading}
use Rattle.trials.proofs.scripts.read_script.Given as goal

abbrev pub invariant-loop-line : goal.invariant-loop-line
invariant-loop-line l = Reading l.text l.commands.items (split_inclusive_rest l.line-iterator)
