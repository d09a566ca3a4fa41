use Rattle.std.proofs.Common.{◌≡◌, ◌<◌, length, take, sym, refl, subst, arith}
use Rattle.std.proofs.lemmas.List.{set-get_or, take_more_set}
use Rattle.heap.specs.Held.{held}
use Rattle.heap.specs.Leaving.{InOrder}
use Rattle.heap.proofs.Sorting.{sorted_laws}
use Rattle.heap.proofs.Draining.{none_left, none_moved, moved_count, still_moved, one_moved, none_gone, one_gone, kept_on}
use Rattle.heap.proofs.binary.Heap.pop_into.Goals as goal

pub loop-n-init : goal.loop-n-init
loop-n-init g c = record {
  moved = none_moved _ _;
  kept = record { named = refl; same_room = refl; beyond = refl; heaped = λ h. h };
  in_order = none_gone g.T.Entry.key g.T.Entry.upto _;
}

-- nothing was left to take out
pub returns-in_default : goal.returns-in_default
returns-in_default g c =
    let o = g.T.Entry in
    let m = g.met.T.Entry in
    let l = c.loop-n in
    let before = c.args.self.now in
    let next = c.pop.new.self in
    let e = c.in_default.ensures in
    let empty : length (held l.self) ≡ 0 = none_left (held l.self) e.removed.which in
    let all = moved_count before c.args.out.now l.n l.self next l.out l.invariant.moved (omega arith) in
    record {
      count = omega arith;
      moved = rw set-get_or (still_moved before c.args.out.now l.n l.self next l.out l.invariant.moved e.removed);
      in_order = λ h. rw set-get_or (subst (InOrder o.key o.upto (held before) (take l.n l.out)) (sym e.removed.others.entries) (l.invariant.in_order h));
      sorted = sorted_laws o.upto m.total m.chain o.key m.level;
      kept = kept_on before l.self next _ _ (omega arith) l.invariant.kept e.kept;
    }

pub loop-n-preserved : goal.loop-n-preserved
loop-n-preserved g c =
    let o = g.T.Entry in
    let l = c.loop-n in
    let before = c.args.self.now in
    let next = c.pop.new.self in
    let x = c.in-Some.x in
    let e = c.in-Some.ensures in
    let room : l.n < length l.out = omega arith in
    let all = moved_count before c.args.out.now l.n l.self next l.out l.invariant.moved (omega arith) in
    record {
      moved = one_moved before c.args.out.now l.n l.self next l.out l.invariant.moved x room e.removed;
      kept = kept_on before l.self next _ _ (omega arith) l.invariant.kept e.kept;
      in_order = λ h.
          let so_far = l.invariant.in_order h in
          subst (λ gone. InOrder o.key o.upto (held before) gone (held next)) (sym (take_more_set l.out l.n x room))
          (one_gone o.key o.upto (held before) (take l.n l.out) (held l.self) (held next) x so_far e.removed.others (e.leaves so_far.heaped));
    }

-- `out` is full
pub returns : goal.returns
returns g c =
    let o = g.T.Entry in
    let m = g.met.T.Entry in
    let l = c.loop-n in
    let all = moved_count c.args.self.now c.args.out.now l.n l.self l.self l.out l.invariant.moved (omega arith) in
    let full : l.n ≡ length l.out = omega arith in
    record {
      count = omega arith;
      moved = rw (← full) l.invariant.moved;
      in_order = rw (← full) l.invariant.in_order;
      sorted = sorted_laws o.upto m.total m.chain o.key m.level;
      kept = l.invariant.kept;
    }
