use Rattle.std.proofs.Common.{◌-◌, ◌/◌, arith}
use Rattle.std.proofs.lemmas.List.Sorted.{IsPermutation-trans}
use Rattle.heap.specs.Sifting.{Gap}
use Rattle.heap.proofs.sift.settle.Goals as goal

-- no entry is at `at`, so nothing is out of order
pub returns-then-at-s-clause-heaped : goal.returns-then-at-s-clause-heaped
unfolding Gap
returns-then-at-s-clause-heaped g c h k d b = h.0 ((k - 1) / 2) k d (omega arith) (omega arith) b.1 (omega arith) (omega arith)

pub returns-clause-shuffled : goal.returns-clause-shuffled
returns-clause-shuffled g c = IsPermutation-trans _ _ _ c.sift_down-j.ensures.shuffled c.sift_up.ensures.shuffled
