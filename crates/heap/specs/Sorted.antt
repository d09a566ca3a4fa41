-- A list of entries sorted in the order in which they may leave.
use Rattle.std.specs.Prelude.{◌≡◌, Bool, cond, List, [], ◌∷◌, map}
use Rattle.std.specs.List.Sorted.{IsPermutation}
use Rattle.heap.specs.Order.{Least}

-- each entry may leave before all after it
abbrev pub Ascending : {X : Type 0} → (X → X → Bool) → List X → Type 0
Ascending upto [] = Unit {0}
Ascending upto (x ∷ xs) = Least upto x xs × Ascending upto xs

-- x before the first of xs that it may leave before
abbrev pub insert : {X : Type 0} → (X → X → Bool) → X → List X → List X
insert upto x [] = x ∷ []
insert upto x (y ∷ ys) = cond (upto x y) (x ∷ y ∷ ys) (y ∷ insert upto x ys)

-- insertion sort
abbrev pub sorted : {X : Type 0} → (X → X → Bool) → List X → List X
sorted upto [] = []
sorted upto (x ∷ xs) = insert upto x (sorted upto xs)

-- the keys of a list's entries, in the order in which they leave
abbrev pub keys_in_order : {X K : Type 0} → (X → K) → (X → X → Bool) → List X → List K
keys_in_order key upto xs = map key (sorted upto xs)

-- the sorted list has the same entries, and ascends; its keys rest on which entries there are, not on how they stood; and the key of a least entry is the first
pub record SortedLaws {X K : Type 0} (key : X → K) (upto : X → X → Bool) : Type 0 where
  pub entries : (xs : List X) → IsPermutation xs (sorted upto xs)
  pub ascending : (xs : List X) → Ascending upto (sorted upto xs)
  pub any_order : (xs ys : List X) → IsPermutation xs ys → keys_in_order key upto xs ≡ keys_in_order key upto ys
  pub least_first : (xs ys : List X) (x : X) → IsPermutation xs (x ∷ ys) → Least upto x xs → keys_in_order key upto xs ≡ key x ∷ keys_in_order key upto ys
