use Rattle.std.proofs.Common.{◌≡◌, ℕ, ◌+◌, ◌-◌}
use Rattle.placing.specs.FirstFit.{seat, lowest, takes, fit}
use Rattle.placing.proofs.first_fit.place_one.Given as goal

-- the boards below b did not take the record, and it has not moved but among them
abbrev pub invariant-loop-b : goal.invariant-loop-b
invariant-loop-b g l = record {
  moved : (c : ℕ) → seat l.records l.i c ≡ seat l.initial.records l.i c;
  left : lowest (takes (g.G.Gauge.passed l.gauge) l.header.cycle l.initial.records l.i) l.b (l.header.boards + 1 - l.b) ≡ fit (g.G.Gauge.passed l.gauge) l.header.boards l.header.cycle l.initial.records l.i;
}
