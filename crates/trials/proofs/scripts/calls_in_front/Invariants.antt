use Rattle.std.proofs.Common.{◌≡◌, ◌+◌, ◌≤◌, length, drop}
use Rattle.std.specs.List.{prefix_len}
use Rattle.trials.specs.Commands.{is_call}
use Rattle.trials.proofs.scripts.calls_in_front.Given as goal

-- what is counted, with what is left to count, is the whole
abbrev pub invariant-loop-i : goal.invariant-loop-i
invariant-loop-i l = (l.i + prefix_len is_call (drop l.i l.commands) ≡ prefix_len is_call l.commands) × (l.i ≤ length l.commands)
