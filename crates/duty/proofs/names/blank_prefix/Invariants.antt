use Rattle.std.proofs.Common.{◌≡◌, ◌+◌, ◌≤◌, length, drop}
use Rattle.duty.specs.Names.{blanks_in}
use Rattle.duty.proofs.names.blank_prefix.Given as goal

-- what is counted, with what is left to count, is the whole
abbrev pub invariant-loop-i : goal.invariant-loop-i
invariant-loop-i l = (l.i + blanks_in (drop l.i l.bytes) ≡ blanks_in l.bytes) × (l.i ≤ length l.bytes)
