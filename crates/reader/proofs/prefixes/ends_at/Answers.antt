use Rattle.std.proofs.Common.{◌&&◌, not, nat_eq, take, true≢false, sym, ap, ◌∙◌}
use Rattle.std.specs.List.{list_any}
use Rattle.std.proofs.lemmas.Bool.{le-ltb}
use Rattle.reader.proofs.Fronts.{ends_short, ends_here}
use Rattle.reader.proofs.prefixes.ends_at.Goals as goal
use Rattle.reader.proofs.prefixes.ends_at.Goals.{then-width-text, else-width-text}

pub returns-then-text-width-eq10-clause-answer : goal.returns-then-text-width-eq10-clause-answer
returns-then-text-width-eq10-clause-answer c =
    let none = not (list_any (λ y. nat_eq y 10) (take c.args.width c.args.text.now)) in
    elim c.if-width-text.branch [
      | then-width-text w ↦
          ap not c.contains.ensures.value ∙ sym (ends_here _ _ w.if-width-text.true ∙ ap (λ t. t && none) (sym w.value-is ∙ c.if-text-width-eq10.true))
      | else-width-text w ↦ absurd (true≢false (sym c.if-text-width-eq10.true ∙ w.value-is ∙ le-ltb _ _ w.if-width-text.false))
    ]

pub returns-else-text-width-eq10-clause-answer : goal.returns-else-text-width-eq10-clause-answer
returns-else-text-width-eq10-clause-answer c =
    let none = not (list_any (λ y. nat_eq y 10) (take c.args.width c.args.text.now)) in
    elim c.if-width-text.branch [
      | then-width-text w ↦
          c.if-text-width-eq10.false ∙ sym (ends_here _ _ w.if-width-text.true ∙ ap (λ t. t && none) (sym w.value-is ∙ c.if-text-width-eq10.false))
      | else-width-text w ↦ c.if-text-width-eq10.false ∙ sym (ends_short _ _ w.if-width-text.false)
    ]
