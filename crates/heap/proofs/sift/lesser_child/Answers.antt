use Rattle.std.proofs.Common.{refl, ◌∙◌, arith}
use Rattle.std.proofs.lemmas.Bool.{eq-eqb}
use borrow.Author.Tests.{both_ways}
use Rattle.heap.proofs.Sifting.{left_lesser, right_lesser}
use Rattle.heap.proofs.sift.lesser_child.Goals as goal
use Rattle.heap.proofs.sift.lesser_child.Goals.{then-right-s, else-right-s}

-- there is no right child, or it does not leave before the left one
pub returns-then-in_order-clause-lesser : goal.returns-then-in_order-clause-lesser
returns-then-in_order-clause-lesser g c =
    left_lesser g.T.Entry.upto g.met.T.Entry.total c.args.s.now c.args.j _ _ refl refl
    (λ d some. elim c.if-right-s.branch [ then-right-s w ↦ absurd (omega arith) | else-right-s w ↦ let t = w.in_order.ensures d in cc ])

pub returns-else-in_order-clause-lesser : goal.returns-else-in_order-clause-lesser
returns-else-in_order-clause-lesser g c =
    right_lesser g.T.Entry.upto g.met.T.Entry.total c.args.s.now c.args.j _ _ refl refl
    (λ d. elim c.if-right-s.branch [ then-right-s w ↦ absurd (both_ways _ c.if-in_order.false (w.value-is ∙ eq-eqb _ _ w.if-right-s.true)) | else-right-s w ↦ let t = w.in_order.ensures d in cc ])
