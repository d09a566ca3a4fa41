use Rattle.heap.proofs.Popping.{leaves}
use Rattle.heap.proofs.binary.Heap.pop.Goals as goal

pub returns-clause-leaves : goal.returns-clause-leaves
returns-clause-leaves g c =
    let m = g.met.T.Entry in
    let e = c.remove.ensures in
    leaves g.T.Entry.upto m.total m.chain g.T.Entry.key m.level c.args.self.now c.remove.new.self c.remove.result e.removed e.kept.heaped
