use Rattle.std.proofs.Common.{◌<◌, length}
use Rattle.std.specs.List.Sorted.{IsPermutation}
use Rattle.heap.specs.Sifting.{Rising}
use Rattle.heap.proofs.sift.sift_up.Given as goal

-- the entry has come up to j
abbrev pub invariant-loop-j : goal.invariant-loop-j
invariant-loop-j g l = record {
  within : l.j < length l.s;
  shuffled : IsPermutation l.initial.s l.s;
  rising : Rising g.T.Entry.upto l.initial.s l.at → Rising g.T.Entry.upto l.s l.j;
}

abbrev pub decreases-loop-j : goal.decreases-loop-j
decreases-loop-j g l = l.j
