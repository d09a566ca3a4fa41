use Rattle.std.proofs.Common.{◌≡◌, ◌+◌, ◌≤◌, length, drop}
use Rattle.duty.specs.Names.{tail_in}
use Rattle.duty.proofs.names.tail_prefix.Given as goal

-- what is counted, with what is left to count, is the whole
abbrev pub invariant-loop-i : goal.invariant-loop-i
invariant-loop-i l = (l.i + tail_in (drop l.i l.bytes) ≡ tail_in l.bytes) × (l.i ≤ length l.bytes)
