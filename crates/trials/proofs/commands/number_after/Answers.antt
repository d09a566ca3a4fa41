use Rattle.std.proofs.Common.{Some, None, decimal, sym}
use Rattle.std.proofs.lemmas.Slice.Eq.{strip_prefix_is}
use Rattle.std.proofs.lemmas.Bool.Decides.{Decides-eqb}
use Rattle.trials.proofs.Numbers.{number_behind}
use Rattle.trials.proofs.commands.number_after.Goals as goal

pub returns-in_err-strip_prefix : goal.returns-in_err-strip_prefix
returns-in_err-strip_prefix c =
    rw c.from_residual.ensures
    (λ n s e. strip_prefix_is Decides-eqb c.args.line.now c.args.word.now None c.in_err-strip_prefix.ensures.cases (decimal n) (sym e))

pub returns : goal.returns
returns c =
    number_behind c.args.word.now c.args.line.now c.in_ok-strip_prefix.field-0.now c.number.result
    (strip_prefix_is Decides-eqb c.args.line.now c.args.word.now (Some c.in_ok-strip_prefix.field-0) c.in_ok-strip_prefix.ensures.cases)
    c.number.ensures
