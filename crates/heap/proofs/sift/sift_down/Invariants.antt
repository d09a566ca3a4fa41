use Rattle.std.proofs.Common.{◌-◌, ◌<◌, length}
use Rattle.std.specs.List.Sorted.{IsPermutation}
use Rattle.heap.specs.Sifting.{Gap}
use Rattle.heap.proofs.sift.sift_down.Given as goal

-- the entry has come down to j
abbrev pub invariant-loop-j : goal.invariant-loop-j
invariant-loop-j g l = record {
  within : l.j < length l.s;
  shuffled : IsPermutation l.initial.s l.s;
  gap : Gap g.T.Entry.upto l.initial.s l.at → Gap g.T.Entry.upto l.s l.j;
}

abbrev pub decreases-loop-j : goal.decreases-loop-j
decreases-loop-j g l = length l.initial.s - l.j
