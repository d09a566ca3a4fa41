use Rattle.std.proofs.Common.{◌≡◌, ◌+◌, ◌-◌, ◌%◌, ◌++◌, drop, set, sym, ap, ◌∙◌, arith}
use Rattle.std.proofs.lemmas.List.{take-append-drop}
use Rattle.columns.specs.Numerals.{justified}
use Rattle.columns.proofs.Writing.{digits_step, write_digit, write_last, blank_before}
use Rattle.columns.proofs.numbers.put_digits.Goals as goal

pub returns-then-left-eq0 : goal.returns-then-left-eq0
returns-then-left-eq0 c =
    let l = c.loop-i in
    let back : l.i - 1 + 1 ≡ l.i = omega arith in
    let written = set l.columns (l.i - 1) (48 + l.left % 10) in
    sym (take-append-drop (l.i - 1) written)
    ∙ ap (λ front. front ++ drop (l.i - 1) written) (blank_before l.i _ l.columns l.invariant.2)
    ∙ rw back at (write_last (l.i - 1) l.left l.columns (omega arith) (omega arith))
    ∙ l.invariant.0
    ∙ ap (λ width. justified width c.args.n) c.fill.ensures.len

pub loop-i-preserved : goal.loop-i-preserved
loop-i-preserved c =
    let l = c.loop-i in
    let back : l.i - 1 + 1 ≡ l.i = omega arith in
    let step = digits_step l.left (omega arith) (omega arith) in (
      rw back at (write_digit (l.i - 1) l.left l.columns (omega arith) (omega arith) (omega arith)) ∙ l.invariant.0,
      omega (arith, step),
      blank_before l.i _ l.columns l.invariant.2,
    )
