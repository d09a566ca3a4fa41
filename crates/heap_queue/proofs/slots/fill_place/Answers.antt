use Rattle.std.proofs.Common.{◌≡◌, ◌<◌, length, set, None, Some, ap, ◌∙◌, arith, rules}
use Rattle.std.proofs.lemmas.List.{set-set}
use Rattle.heap.specs.Held.{held, memory, room}
use Rattle.heap.proofs.Holding.{taken}
use Rattle.heap_queue.specs.Entries.{row, Sound}
use Rattle.heap_queue.proofs.Changing.{in_sound, in_row, at_end}
use Rattle.heap_queue.proofs.Crowding.{room_for}
use Rattle.heap_queue.proofs.slots.fill_place.Goals as goal

pub returns : goal.returns
returns c =
    let e = c.args.entry in
    let h = c.push.new.self in
    let out = c.take_out.new.heap in
    let left = c.take_out.ensures.without in
    let fewer : length (held out) < room out = omega (arith, room_for e.place (held out) left.sound c.requires.low left.gone, c.take_out.ensures.kept.same_room, ap (λ s. length s.now) c.resume-heap.ensures.slots, c.requires.room) in
    let came = taken c.push.ensures.pushed fewer in
    record {
      within = search rules;
      sound = at_end Sound _ (memory h) (held h) c.len.result c.len.ensures.first (in_sound (held out) (held h) e came left.gone left.sound c.requires.low (c.push.ensures.kept.heaped left.sound.ordered)) (search rules);
      after = at_end (λ l. row l ≡ set (row (held c.resume-heap.result)) e.place (Some e.deadline)) _ (memory h) (held h) c.len.result c.len.ensures.first
          (in_row (held out) (held h) e came left.gone left.sound ∙ ap (λ r. set r e.place (Some e.deadline)) left.after ∙ set-set _ e.place None (Some e.deadline)) (search rules)
          ∙ ap (λ l. set (row l) e.place (Some e.deadline)) c.resume-heap.ensures.held;
    }
