-- The places of a board.
use Rattle.std.specs.Prelude.{ℕ, cond, List, replicate, None, Ok, Err, Option, Result, nat_lt}
use Rattle.fault.specs.declared.Cause.TheVariants.{NoSuchPlace}
use Rattle.fault.specs.declared.Fault.{Fault}
use Rattle.fault.specs.declared.Layer.TheVariants.{Call}
use Rattle.fault.specs.Faults.{fault}

-- how many places there are, counted from 0
abbrev pub places : ℕ
places = 64

-- no place has a deadline
abbrev pub all_empty : List (Option ℕ)
all_empty = replicate places None

-- a place that there is not is refused
abbrev pub place_fault : ℕ → Result (Unit {0}) Fault
place_fault place = cond (nat_lt place places) (Ok tt) (Err (fault NoSuchPlace 0 0 Call))
