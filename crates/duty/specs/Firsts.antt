-- The first element of a list that fails a test.
use Rattle.std.specs.Prelude.{ℕ, Bool, not, List, Option, position}

-- its place, counted from 0
unfoldable pub first_failing : {A : Type 0} → (A → Bool) → List A → Option ℕ
first_failing test xs = position (λ x. not (test x)) xs
