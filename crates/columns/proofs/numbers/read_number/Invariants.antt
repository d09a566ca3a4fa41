use Rattle.std.proofs.Common.{◌≡◌, drop}
use Rattle.columns.specs.Numerals.{numeral}
use Rattle.columns.proofs.numbers.read_number.Given as goal

-- the blanks that were passed say nothing
abbrev pub invariant-loop-i : goal.invariant-loop-i
invariant-loop-i l = numeral (drop l.i l.columns) ≡ numeral l.columns
