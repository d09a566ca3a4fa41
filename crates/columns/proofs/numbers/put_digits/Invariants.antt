use Rattle.std.proofs.Common.{◌≡◌, ◌≤◌, ◌++◌, length, take, drop, replicate, decimal}
use Rattle.columns.specs.Numerals.{justified}
use Rattle.columns.proofs.numbers.put_digits.Given as goal

-- what is still due, before what is written, is the whole; the columns of the former are blank
abbrev pub invariant-loop-i : goal.invariant-loop-i
invariant-loop-i l =
    (justified l.i l.left ++ drop l.i l.columns ≡ justified (length l.initial.columns) l.n)
    × (length (decimal l.left) ≤ l.i)
    × (take l.i l.columns ≡ replicate l.i 32)
