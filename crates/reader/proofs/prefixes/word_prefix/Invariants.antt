use Rattle.std.proofs.Common.{◌≡◌, ◌+◌, drop}
use Rattle.columns.specs.Lines.{matched}
use Rattle.reader.proofs.prefixes.word_prefix.Given as goal

abbrev pub invariant-loop-i : goal.invariant-loop-i
invariant-loop-i l = l.i + matched (drop l.i l.word) (drop l.i l.text) ≡ matched l.word l.text
