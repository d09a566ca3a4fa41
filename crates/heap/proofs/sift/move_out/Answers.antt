use Rattle.std.proofs.Common.{arith}
use Rattle.heap.proofs.Parting.{moved_shuffled, moved_last, moved_heaped}
use Rattle.heap.proofs.sift.move_out.Goals as goal

pub returns : goal.returns
returns g c =
    let xs = c.args.s.now in
    let ws = c.swap.new.self in
    let ys = c.settle.new.s in
    let i = c.args.i in
    let w = c.swap.ensures in
    let t = c.settle.ensures in
    record {
      shuffled = moved_shuffled xs ws ys i _ c.requires (omega arith) w.len (w.by_index.0, w.by_index.1, w.by_index.2) w.permutation t.shuffled;
      last = moved_last xs ws ys i _ c.requires (omega arith) w.len (w.by_index.0, w.by_index.1, w.by_index.2) w.permutation t.shuffled;
      heaped = moved_heaped xs ws ys i _ c.requires (omega arith) w.len (w.by_index.0, w.by_index.1, w.by_index.2) w.permutation t.shuffled g.T.Entry.upto g.met.T.Entry.chain t.heaped;
    }
