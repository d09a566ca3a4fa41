use Rattle.std.proofs.Common.{ℕ, List, [], ◌∷◌, get_or, ap, ◌∙◌, arith}
use Rattle.std.proofs.lemmas.Slice.Eq.{starts_is}
use Rattle.std.proofs.lemmas.Bool.Decides.{Decides-eqb}
use Rattle.trials.proofs.Numbers.{first_digit, bare_number, no_blank_first}
use Rattle.trials.proofs.commands.number.Goals as goal

pub returns-then-starts_with : goal.returns-then-starts_with
returns-then-starts_with c = λ n s e.
    let blank = (starts_is Decides-eqb c.args.digits.now (32 ∷ []) c.starts_with.result c.starts_with.ensures.value).0 c.if-starts_with.true in
    let first = ap (λ (xs : List ℕ). get_or xs 0 0) (e ∙ blank) in
    omega (arith, first_digit n s, first)

pub returns-else-starts_with : goal.returns-else-starts_with
returns-else-starts_with c =
    let starts = starts_is Decides-eqb c.args.digits.now (32 ∷ []) c.starts_with.result c.starts_with.ensures.value in
    bare_number c.args.digits.now c.read_number.result c.read_number.ensures.answer (no_blank_first c.args.digits.now c.starts_with.result starts.1 c.if-starts_with.false)
