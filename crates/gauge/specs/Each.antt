-- Tests of all the elements of a list, and of all the numbers up to one.
use Rattle.std.specs.Prelude.{ℕ, zero, suc, Bool, true, ◌&&◌, List}
use Rattle.std.specs.List.{list_all}

-- p holds of each element
abbrev pub each : {A : Type 0} → (A → Bool) → List A → Bool
each p xs = list_all p xs

-- p holds of each number from 1 to n
abbrev pub each_to : (ℕ → Bool) → ℕ → Bool
each_to p zero = true
each_to p (suc n) = p (suc n) && each_to p n
