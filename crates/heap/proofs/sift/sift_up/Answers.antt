use Rattle.std.proofs.Common.{arith}
use Rattle.std.proofs.lemmas.List.Sorted.{IsPermutation-trans}
use Rattle.heap.proofs.Sifting.{rises, risen}
use Rattle.heap.proofs.sift.sift_up.Goals as goal

pub returns-then-in_order-clause-heaped : goal.returns-then-in_order-clause-heaped
returns-then-in_order-clause-heaped g c h =
    let l = c.loop-j in
    risen g.T.Entry.upto g.met.T.Entry.total l.s l.j (λ d some. let t = c.in_order.ensures d in cc) (l.invariant.rising h)

pub loop-j-preserved : goal.loop-j-preserved
loop-j-preserved g c =
    let m = g.met.T.Entry in
    let l = c.loop-j in
    let w = c.swap.ensures in
    record {
      within = omega arith;
      shuffled = IsPermutation-trans _ _ _ l.invariant.shuffled w.permutation;
      rising = λ h. rises g.T.Entry.upto m.total m.chain l.s c.swap.new.self _ _ w.len (omega arith) (omega arith) (omega arith) (w.by_index.0, w.by_index.1, w.by_index.2) (λ d. let t = c.in_order.ensures d in cc) (l.invariant.rising h);
    }

pub returns-clause-heaped : goal.returns-clause-heaped
returns-clause-heaped g c h =
    let l = c.loop-j in
    risen g.T.Entry.upto g.met.T.Entry.total l.s l.j (λ d some. absurd (omega arith)) (l.invariant.rising h)
