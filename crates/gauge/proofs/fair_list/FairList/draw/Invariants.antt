use Rattle.std.proofs.Common.{◌≡◌, map, take}
use Rattle.gauge.specs.Lines.{line}
use Rattle.gauge.proofs.fair_list.FairList.draw.Given as goal

abbrev pub invariant-loop-i : goal.invariant-loop-i
invariant-loop-i l = take l.i l.memory ≡ map (line l.self.cycle) (take l.i l.self.duties.now)
