use Rattle.std.proofs.Common.{arith}
use Rattle.columns.proofs.Reading.{nine_digits}
use Rattle.columns.proofs.numbers.value.Goals as goal

pub overflow_mul-n : goal.overflow_mul-n
overflow_mul-n c = let below = nine_digits _ _ c.loop-digit.invariant.1 (omega arith) in omega arith

pub overflow_add-n : goal.overflow_add-n
overflow_add-n c = let below = nine_digits _ _ c.loop-digit.invariant.1 (omega arith) in omega arith
