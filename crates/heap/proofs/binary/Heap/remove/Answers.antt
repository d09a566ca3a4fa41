use Rattle.std.proofs.Common.{◌≡◌, ◌<◌, Some, get_or, unwrap_or, sym, refl, ap, ◌∙◌, arith, rules}
use Rattle.std.specs.Option.{option_copied}
use Rattle.std.proofs.lemmas.List.{length-take-le}
use Rattle.std.proofs.lemmas.Option.{slice_get_read}
use Rattle.heap.specs.Held.{memory, held}
use Rattle.heap.proofs.Holding.{removed_room, removed_others, removed_beyond, removed_heaped}
use Rattle.heap.proofs.binary.Heap.remove.Goals as goal

pub returns : goal.returns
returns g c =
    let h = c.args.self.now in
    let i = c.args.i in
    let x = c.in_ok-x.x in
    let ys = c.move_out.new.s in
    let e = c.move_out.ensures in
    let some : i < h.len = search rules in
    let count = length-take-le h.len (memory h) h.within in
    let copied : option_copied c.get.result ≡ Some x = sym c.copied.ensures ∙ c.in_ok-x.was in
    let now' : get_or c.entries.result.now i x ≡ x = sym (c.get.ensures.lookup.4 (omega arith) x) ∙ ap (λ o. unwrap_or o x) copied in
    let read : get_or (held h) i x ≡ x = ap (λ l. get_or l i x) (sym c.entries.ensures) ∙ now' in
    record {
      removed = record {
        which = sym (slice_get_read (held h) h.len i x (sym count) some (sym read));
        others = removed_others (memory h) ys h.len i h.within some e.shuffled x read (e.last x);
      };
      kept = record {
        named = refl;
        same_room = removed_room (memory h) ys h.len i h.within some e.shuffled;
        beyond = removed_beyond (memory h) ys h.len i h.within some e.shuffled;
        heaped = λ o. removed_heaped (memory h) ys h.len i h.within some e.shuffled g.T.Entry.upto (e.heaped o);
      };
    }
