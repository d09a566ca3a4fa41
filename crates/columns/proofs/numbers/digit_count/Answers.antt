use Rattle.std.proofs.Common.{◌+◌, ◌^◌, ◌<◌, ◌≤◌, length, decimal, sym, ⊎_elim, add-one, pow-suc, arith}
use Rattle.std.proofs.lemmas.Bool.{cases_lt}
use Rattle.std.proofs.lemmas.Fmt.{length-decimal-le}
use Rattle.columns.proofs.Writing.{few_digits, one_digit}
use Rattle.columns.proofs.numbers.digit_count.Goals as goal

pub returns-in-Some : goal.returns-in-Some
returns-in-Some c =
    let n = c.args.n in
    let p = c.in-Some.power in
    let above : n < 10 ^ (p + 1) = rw (add-one p, pow-suc 10 p) (omega (arith, c.in-Some.ensures.next_power_gt)) in
    let most : length (decimal n) ≤ p + 1 = length-decimal-le (p + 1) n (omega arith) above (omega arith) in
    ⊎_elim
    (λ few. let below = few_digits p n (omega arith) (omega arith) in absurd (omega (arith, c.in-Some.ensures.power_le)))
    (λ enough. omega arith)
    (cases_lt (length (decimal n)) (p + 1))

pub returns-in-None : goal.returns-in-None
returns-in-None c = sym (one_digit c.args.n (omega (arith, c.in-None.ensures.none)))
