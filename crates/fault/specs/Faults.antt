-- Refusals as values: how one is made, and how steps follow one another until the first is refused.
use Rattle.std.specs.Prelude.{ℕ, Ok, Err, Result}
use Rattle.fault.specs.declared.Cause.{Cause}
use Rattle.fault.specs.declared.Fault.{Fault}
use Rattle.fault.specs.declared.Layer.{Layer}

-- the fault of a cause at a line and a column, found by a layer
abbrev pub fault : Cause → ℕ → ℕ → Layer → Fault
fault cause line column layer = record { cause = cause; line = line; column = column; layer = layer }

-- the second step follows where the first is not refused
abbrev pub then : {A B : Type 0} → Result A Fault → (A → Result B Fault) → Result B Fault
then (Ok x) k = k x
then (Err f) k = Err f
