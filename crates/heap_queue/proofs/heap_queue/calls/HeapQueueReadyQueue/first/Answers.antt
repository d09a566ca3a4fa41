use Rattle.std.proofs.Common.{◌≡◌, length, get_or, None, sym, refl, ◌∙◌, subst, arith, Some}
use Rattle.std.proofs.lemmas.List.{length-take-le, get_or-take}
use Rattle.std.proofs.lemmas.Option.{slice_get_past, slice_get_read}
use Rattle.queue.specs.First.{Foremost}
use Rattle.queue.proofs.Foremosts.{foremost}
use Rattle.heap_queue.specs.Views.{entries, held_by}
use Rattle.heap_queue.proofs.Topmost.{first_is}
use Rattle.heap_queue.proofs.heap_queue.calls.HeapQueueReadyQueue.first.Goals as goal

pub returns-then-self-eq0 : goal.returns-then-self-eq0
returns-then-self-eq0 c =
    let q = c.args.self.now in
    let es = entries q in
    let count : length es ≡ q.len = length-take-le q.len q.memory.items q.within in
    let answer = first_is es None (sym (slice_get_past es 0 (omega arith))) q.sound in
    record { answer = answer; relation = subst (Foremost (held_by q)) (sym answer) (foremost (held_by q)) }

pub returns : goal.returns
returns c =
    let q = c.args.self.now in
    let es = entries q in
    let top = c.index.result.now in
    let count : length es ≡ q.len = length-take-le q.len q.memory.items q.within in
    let read : top ≡ get_or q.memory.items 0 top = c.index.ensures in
    let is = slice_get_read es (length es) 0 top refl (omega arith) (read ∙ sym (get_or-take q.len q.memory.items 0 top (omega arith))) in
    let answer = first_is es (Some top) (sym is) q.sound in
    record { answer = answer; relation = subst (Foremost (held_by q)) (sym answer) (foremost (held_by q)) }
