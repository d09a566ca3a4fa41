use Rattle.std.proofs.Common.{◌≡◌, ◌^◌, ◌<◌, drop}
use Rattle.columns.specs.Numerals.{further}
use Rattle.columns.proofs.numbers.value.Given as goal

abbrev pub invariant-loop-digit : goal.invariant-loop-digit
invariant-loop-digit l =
    (further l.n (drop l.digit-index l.digits) ≡ further 0 l.digits) × (l.n < 10 ^ l.digit-index)
