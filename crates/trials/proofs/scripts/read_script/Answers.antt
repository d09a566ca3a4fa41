use Rattle.std.proofs.Common.{◌==◌, [], ◌∷◌, sym, ap, ◌∙◌, rules, Bor, ℕ, List}
use Rattle.std.specs.Slice.Iter.{split_inclusive_rest}
use Rattle.std.proofs.lemmas.Bool.Decides.{Decides-eqb}
use Rattle.std.proofs.lemmas.List.Sorted.{answers_always}
use Rattle.std.proofs.lemmas.Slice.Eq.{strip_suffix_is}
use Rattle.trials.proofs.ByLine.{line_of, starts, goes_on, ends, stops}
use Rattle.trials.proofs.scripts.read_script.Goals as goal

pub loop-line-init : goal.loop-line-init
loop-line-init c =
    starts c.args.text.now c.new-commands.result.items (split_inclusive_rest c.into_iter-line-iterator.result) c.new-commands.ensures.items
    (ap split_inclusive_rest c.into_iter-line-iterator.ensures.into_iter_gives ∙ c.split_inclusive-line-items.ensures.rest)

pub loop-line-preserved : goal.loop-line-preserved
loop-line-preserved c =
    let step = c.in-Some.ensures.steps in
    let left = split_inclusive_rest c.loop-line.line-iterator in
    let after = split_inclusive_rest c.next.new.self in
    let first = (step.1.2 (λ b. b == 10) (answers_always _ _ _ (λ f a r g h. search rules))).1 in
    let cut = strip_suffix_is Decides-eqb c.in-Some.line.now (10 ∷ []) c.strip_suffix.result c.strip_suffix.ensures.cases in
    let is = line_of left after c.in-Some.line step.1.0 c.strip_suffix.result step.0 step.1.1 first cut in
    goes_on c.args.text.now c.loop-line.commands.items c.push.new.self.items c.in-Ok.command left c.in-Some.line.now after _ c.loop-line.invariant c.in_ok-push-in-Ok.ensures.items step.0 step.2 is
    (c.in-Ok.ensures.1 ∙ ap (λ (b : Bor (List ℕ)). b.now) c.unwrap_or.ensures)

pub returns-in-Err : goal.returns-in-Err
returns-in-Err c =
    let step = c.in-Some.ensures.steps in
    let left = split_inclusive_rest c.loop-line.line-iterator in
    let after = split_inclusive_rest c.next.new.self in
    let first = (step.1.2 (λ b. b == 10) (answers_always _ _ _ (λ f a r g h. search rules))).1 in
    let cut = strip_suffix_is Decides-eqb c.in-Some.line.now (10 ∷ []) c.strip_suffix.result c.strip_suffix.ensures.cases in
    let is = line_of left after c.in-Some.line step.1.0 c.strip_suffix.result step.0 step.1.1 first cut in
    record {
      left = left;
      before = stops c.args.text.now c.loop-line.commands.items left c.loop-line.invariant step.2;
      next = record {
        some = step.2;
        none = λ x s e. c.in-Err.ensures x s (e ∙ sym is.first ∙ sym (ap (λ (b : Bor (List ℕ)). b.now) c.unwrap_or.ensures));
      };
    }

pub returns : goal.returns
returns c = ends c.args.text.now c.loop-line.commands.items (split_inclusive_rest c.loop-line.line-iterator) c.loop-line.invariant c.in-None.ensures.steps.0
