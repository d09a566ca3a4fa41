use Rattle.std.proofs.Common.{Ok, Err, cond, length, sym, refl, ap, arith}
use Rattle.std.proofs.lemmas.List.{length-take-le}
use Rattle.std.proofs.lemmas.Bool.{lt-ltb}
use Rattle.heap.specs.Held.{memory, held}
use Rattle.heap.proofs.Holding.{pushed_room, pushed_taken, pushed_beyond, pushed_heaped}
use Rattle.heap.proofs.binary.Heap.push.Goals as goal

pub returns-clause-pushed : goal.returns-clause-pushed
returns-clause-pushed g c =
    let h = c.args.self.now in
    let count = length-take-le h.len (memory h) h.within in
    record {
      fits = ap (λ b. cond b (Ok tt) (Err c.args.x)) (sym (lt-ltb (length (held h)) (length (memory h)) (omega (arith, count))));
      refused = tt;
      taken = pushed_taken (memory h) c.sift_up.new.s h.len c.args.x (omega arith) c.sift_up.ensures.shuffled;
    }

pub returns-clause-kept : goal.returns-clause-kept
returns-clause-kept g c =
    let h = c.args.self.now in
    let up = c.sift_up.ensures in
    record {
      named = refl;
      same_room = pushed_room (memory h) c.sift_up.new.s h.len c.args.x (omega arith) up.shuffled;
      beyond = pushed_beyond (memory h) c.sift_up.new.s h.len c.args.x (omega arith) up.shuffled;
      heaped = pushed_heaped (memory h) c.sift_up.new.s h.len c.args.x (omega arith) up.shuffled g.T.Entry.upto up.heaped;
    }
