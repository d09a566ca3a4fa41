use Rattle.std.proofs.Common.{◌≡◌, ◌+◌, ◌-◌}
use Rattle.plans.specs.Closing.{overfull_fault}
use Rattle.plans.proofs.checks.check_boards.Given as goal

-- the boards below b pass
abbrev pub invariant-loop-b : goal.invariant-loop-b
invariant-loop-b g l =
    overfull_fault (g.G.Gauge.passed l.gauge) l.records l.header.cycle l.b (l.header.boards + 1 - l.b) ≡ overfull_fault (g.G.Gauge.passed l.gauge) l.records l.header.cycle 1 l.header.boards
