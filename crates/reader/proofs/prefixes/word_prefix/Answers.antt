use Rattle.std.proofs.Common.{arith}
use Rattle.reader.proofs.Fronts.{matched_end, matched_stop}
use Rattle.reader.proofs.prefixes.word_prefix.Goals as goal
use Rattle.reader.proofs.prefixes.word_prefix.Goals.{then-i-text-via-then-i-text, then-i-text-via-else-i-text+then-text-i}

pub returns-then-i-text-clause-value : goal.returns-then-i-text-clause-value
returns-then-i-text-clause-value c =
    elim c.then-i-text.branch [
      | then-i-text-via-then-i-text w ↦ omega (arith, matched_end c.args.word.now _ _ w.if-i-text.true, c.loop-i.invariant)
      | then-i-text-via-else-i-text+then-text-i w ↦ omega (arith, matched_stop _ _ _ c.loop-i-test.true w.if-i-text.false w.if-text-i.true, c.loop-i.invariant)
    ]
