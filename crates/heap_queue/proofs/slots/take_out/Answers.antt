use Rattle.std.proofs.Common.{◌==◌, sym, ap, ◌∙◌}
use Rattle.std.specs.List.{position}
use Rattle.heap.specs.Held.{held}
use Rattle.heap_queue.proofs.Changing.{none_leaves, one_leaves}
use Rattle.heap_queue.proofs.slots.take_out.Goals as goal

pub returns-in-Some-clause-without : goal.returns-in-Some-clause-without
returns-in-Some-clause-without c =
    let p = c.args.place in
    let is = sym (c.in-Some.ensures ∙ ap (position (λ e. e.place == p)) c.entries.ensures) in
    one_leaves c.args.heap.now c.remove.new.self p c.in-Some.at c.remove.result is c.remove.ensures.removed c.remove.ensures.kept.heaped c.requires

pub returns-in_default-clause-without : goal.returns-in_default-clause-without
returns-in_default-clause-without c =
    let p = c.args.place in
    let is = sym (c.in_default.ensures ∙ ap (position (λ e. e.place == p)) c.entries.ensures) in
    none_leaves (held c.args.heap.now) p is c.requires
