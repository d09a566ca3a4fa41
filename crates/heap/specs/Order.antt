-- The order of a heap: a tree in a list, with the first entry at the top, and the parent of the entry at k at (k - 1) / 2.
use Rattle.std.specs.Prelude.{◌≡◌, ℕ, ◌-◌, ◌/◌, ◌<◌, Bool, true, List, length, slice_index_or}
use Rattle.std.specs.List.{AllByRecursion}

-- each parent may leave before its children, or is level with them
abbrev pub Heaped : {X : Type 0} → (X → X → Bool) → List X → Type 0
Heaped {X} upto xs = (k : ℕ) (d : X) → (0 < k) × (k < length xs) → upto (slice_index_or xs ((k - 1) / 2) d) (slice_index_or xs k d) ≡ true

-- x may leave before each of xs, or is level with it
abbrev pub Least : {X : Type 0} → (X → X → Bool) → X → List X → Type 0
Least upto x xs = AllByRecursion (λ y. upto x y ≡ true) xs
