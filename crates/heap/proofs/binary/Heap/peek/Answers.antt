use Rattle.std.proofs.Common.{ap, ◌∙◌}
use Rattle.std.specs.List.{slice_get}
use Rattle.heap.specs.Held.{held}
use Rattle.heap.proofs.Popping.{answer_least}
use Rattle.heap.proofs.binary.Heap.peek.Goals as goal

pub returns-clause-least : goal.returns-clause-least
returns-clause-least g c =
    let m = g.met.T.Entry in
    answer_least g.T.Entry.upto m.total m.chain (held c.args.self.now) c.copied.result (c.copied.ensures ∙ c.first.ensures.value ∙ ap (λ l. slice_get l 0) c.entries.ensures)
