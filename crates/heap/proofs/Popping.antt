-- The first entry of a heap may leave before all, and the keys leave in order.
use Rattle.std.proofs.Common.{◌≡◌, Bool, true, false, List, [], ◌∷◌, IfSome, Some, None, Option, sym, ap, subst, arith, MatchOption}
use Rattle.std.specs.List.{slice_get}
use Rattle.std.specs.List.Sorted.{IsPermutation}
use Rattle.std.proofs.ByRecursion.{All-from_get_or, all_shuffled}
use Rattle.heap.specs.declared.entry.Entry.{Ghosts}
use Rattle.heap.specs.declared.binary.Heap.{Heap}
use Rattle.heap.specs.Order.{Heaped, Least}
use Rattle.heap.specs.Held.{held}
use Rattle.heap.specs.Calls.{Unchanged, Removed}
use Rattle.heap.specs.Sorted.{keys_in_order}
use Rattle.heap.specs.Leaving.{leads, Leaves}
use Rattle.heap.proofs.Sifting.{first_least}
use Rattle.heap.proofs.Sorting.{keys_least_first}

module _ {X : Type 0} (upto : X → X → Bool) (total : (x y : X) → upto x y ≡ false → upto y x ≡ true) (chain : (x y z : X) → upto x y ≡ true → upto y z ≡ true → upto x z ≡ true) where
  top_least : (xs : List X) → Heaped upto xs → IfSome (slice_get xs 0) (λ x. Least upto x xs)
  top_least [] h = tt
  top_least (x ∷ xs) h = All-from_get_or (λ y. upto x y ≡ true) (x ∷ xs) x (λ k f. first_least upto total chain (x ∷ xs) x h k k (omega arith) f)

  pub answer_least : (xs : List X) (r : Option X) → r ≡ slice_get xs 0 → Heaped upto xs → IfSome r (λ x. Least upto x xs)
  answer_least xs r e h = subst (λ o. IfSome o (λ x. Least upto x xs)) (sym e) (top_least xs h)

  module _ {K : Type 0} (key : X → K) (level : (x y : X) → upto x y ≡ true → upto y x ≡ true → key x ≡ key y) where
    turn : {g : Ghosts X} (before after : Heap X g) (r : Option X) → MatchOption r (Unchanged before after) (λ x. IsPermutation (held before) (x ∷ held after)) → IfSome r (λ x. Least upto x (held before)) → keys_in_order key upto (held before) ≡ leads key r (keys_in_order key upto (held after))
    turn before after None same h = ap (keys_in_order key upto) (sym same.entries)
    turn before after (Some x) w h = keys_least_first upto total chain key level (held before) (held after) x w (all_shuffled (λ y. upto x y ≡ true) _ _ w h).1

    -- the entry at the top leaves
    pub leaves : {g : Ghosts X} (before after : Heap X g) (r : Option X) → Removed 0 before r after → (Heaped upto (held before) → Heaped upto (held after)) → Heaped upto (held before) → Leaves key upto (held before) r (held after)
    leaves before after r gone rest h =
        let first = answer_least (held before) r gone.which h in
        record { least = first; heaped = rest h; in_turn = turn before after r gone.others first }
