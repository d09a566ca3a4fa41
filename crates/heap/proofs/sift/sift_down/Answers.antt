use Rattle.std.proofs.Common.{arith}
use Rattle.std.proofs.lemmas.List.Sorted.{IsPermutation-trans}
use Rattle.heap.specs.Sifting.{Lesser}
use Rattle.heap.proofs.Sifting.{falls, rests}
use Rattle.heap.proofs.sift.sift_down.Goals as goal

pub returns-then-in_order-clause-rising : goal.returns-then-in_order-clause-rising
unfolding Lesser
returns-then-in_order-clause-rising g c h =
    let m = g.met.T.Entry in
    let l = c.loop-j in
    rests g.T.Entry.upto m.total l.s l.j
    (λ k d a b f. m.chain _ _ _ (let t = c.in_order.ensures d in cc) (c.lesser_child-child.ensures.lesser k d a b f))
    (l.invariant.gap h)

pub loop-j-preserved : goal.loop-j-preserved
loop-j-preserved g c =
    let m = g.met.T.Entry in
    let l = c.loop-j in
    let w = c.swap.ensures in
    let b = c.lesser_child-child.ensures in
    record {
      within = omega arith;
      shuffled = IsPermutation-trans _ _ _ l.invariant.shuffled w.permutation;
      gap = λ h. falls g.T.Entry.upto m.total m.chain l.s c.swap.new.self l.j c.lesser_child-child.result w.len b.child.0 b.child.1 b.child.2 (w.by_index.0, w.by_index.1, w.by_index.2) b.lesser (l.invariant.gap h);
    }

pub returns-clause-rising : goal.returns-clause-rising
returns-clause-rising g c h =
    let l = c.loop-j in
    rests g.T.Entry.upto g.met.T.Entry.total l.s l.j (λ k d a b f. absurd (omega arith)) (l.invariant.gap h)
