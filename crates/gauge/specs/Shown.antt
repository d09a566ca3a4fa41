-- Sums at an instant, for tools that print them.
use Rattle.std.specs.Prelude.{ℕ, cond, ◌&&◌, List, Some, None, Option, nat_le}
use Rattle.duty.specs.declared.timings.Timing.{Timing}
use Rattle.duty.specs.Limits.{longest}
use Rattle.gauge.specs.Fair.{fair}

-- a sum of a fair list at an instant up to 1,000,000, and none elsewhere
abbrev pub shown : List Timing → ℕ → ℕ → ℕ → Option ℕ
shown ds cycle t sum = cond (fair ds cycle && nat_le t longest) (Some sum) None
