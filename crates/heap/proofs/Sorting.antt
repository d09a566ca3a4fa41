-- Laws of the sorted list. Which entries tie is counted: sorting keeps the counts, and they settle the keys of a list that ascends.
use Rattle.std.proofs.Common.{◌≡◌, ℕ, ◌+◌, ◌<◌, Bool, true, false, cond, List, [], ◌∷◌, map, sum_by, sym, refl, ap, ◌∙◌, arith}
use borrow.Author.Tests.{both_ways}
use Rattle.std.specs.List.Sorted.{IsPermutation}
use Rattle.std.specs.List.{AllByRecursion}
use Rattle.std.proofs.ByRecursion.{All-weaker, all_shuffled}
use Rattle.std.proofs.lemmas.List.Sorted.{sum_by-IsPermutation, IsPermutation-refl, IsPermutation-trans, IsPermutation-cons, IsPermutation-swap}
use Rattle.std.proofs.lemmas.List.Sums.{sum_by-cons}
use Rattle.heap.specs.Order.{Least}
use Rattle.heap.specs.Sorted.{Ascending, insert, sorted, keys_in_order, SortedLaws}

-- a fact, whichever way a test goes
pub either_way : (b : Bool) {G : Type 0} → (b ≡ true → G) → (b ≡ false → G) → G
either_way true f g = f refl
either_way false f g = g refl

module _ {X : Type 0} (upto : X → X → Bool) where
  -- sorting keeps the entries
  swap_two : (x y : X) (l : List X) → IsPermutation (x ∷ y ∷ l) (y ∷ x ∷ l)
  swap_two x y l = IsPermutation-swap (x ∷ y ∷ l) (y ∷ x ∷ l) 0 1 (omega arith) (omega arith) refl

  shuffled_insert : (x : X) (l : List X) → IsPermutation (x ∷ l) (insert upto x l)
  shuffled_insert x [] = IsPermutation-refl (x ∷ [])
  shuffled_insert x (y ∷ l) = by_test (upto x y) (shuffled_insert x l)
    where
      by_test : (b : Bool) → IsPermutation (x ∷ l) (insert upto x l) → IsPermutation (x ∷ y ∷ l) (cond b (x ∷ y ∷ l) (y ∷ insert upto x l))
      by_test true s = IsPermutation-refl (x ∷ y ∷ l)
      by_test false s = IsPermutation-trans _ _ _ (swap_two x y l) (IsPermutation-cons y _ _ s)

  pub shuffled_sorted : (l : List X) → IsPermutation l (sorted upto l)
  shuffled_sorted [] = IsPermutation-refl []
  shuffled_sorted (x ∷ l) = IsPermutation-trans _ _ _ (IsPermutation-cons x _ _ (shuffled_sorted l)) (shuffled_insert x (sorted upto l))

  all_insert : (P : X → Type 0) (x : X) (l : List X) → P x → AllByRecursion P l → AllByRecursion P (insert upto x l)
  all_insert P x [] p h = (p, tt)
  all_insert P x (y ∷ l) p h = by_test (upto x y) (all_insert P x l p h.1)
    where
      by_test : (b : Bool) → AllByRecursion P (insert upto x l) → AllByRecursion P (cond b (x ∷ y ∷ l) (y ∷ insert upto x l))
      by_test true r = (p, h)
      by_test false r = (h.0, r)

  all_sorted : (P : X → Type 0) (l : List X) → AllByRecursion P l → AllByRecursion P (sorted upto l)
  all_sorted P [] h = tt
  all_sorted P (x ∷ l) h = all_insert P x (sorted upto l) h.0 (all_sorted P l h.1)

  -- an entry that may leave before all others stands first
  insert_least : (x : X) (l : List X) → Least upto x l → insert upto x l ≡ x ∷ l
  insert_least x [] h = refl
  insert_least x (y ∷ l) h = ap (λ b. cond b (x ∷ y ∷ l) (y ∷ insert upto x l)) h.0

module _ {X : Type 0} (upto : X → X → Bool) (total : (x y : X) → upto x y ≡ false → upto y x ≡ true) (chain : (x y z : X) → upto x y ≡ true → upto y z ≡ true → upto x z ≡ true) where
  itself : (x : X) → upto x x ≡ true
  itself x = either_way (upto x x) (λ e. e) (total x x)

  insert_ascends : (x : X) (l : List X) → Ascending upto l → Ascending upto (insert upto x l)
  insert_ascends x [] h = (tt, tt)
  insert_ascends x (y ∷ l) h = by_test (upto x y) refl (insert_ascends x l h.1)
    where
      by_test : (b : Bool) → upto x y ≡ b → Ascending upto (insert upto x l) → Ascending upto (cond b (x ∷ y ∷ l) (y ∷ insert upto x l))
      by_test true e r = ((e, All-weaker (λ z. upto y z ≡ true) (λ z. upto x z ≡ true) (λ z f. chain x y z e f) l h.0), h)
      by_test false e r = (all_insert upto (λ z. upto y z ≡ true) x l (total x y e) h.0, r)

  pub sorted_ascends : (l : List X) → Ascending upto (sorted upto l)
  sorted_ascends [] = tt
  sorted_ascends (x ∷ l) = insert_ascends x (sorted upto l) (sorted_ascends l)

  -- 1 where two entries are level
  abbrev tie : X → X → ℕ
  tie x y = cond (upto x y) (cond (upto y x) 1 0) 0

  -- how many entries of a list are level with x
  abbrev ties : X → List X → ℕ
  ties x l = sum_by (tie x) l

  more : (z y : X) (l : List X) → ties z (y ∷ l) ≡ tie z y + ties z l
  more z y l = sum_by-cons (tie z) y l

  tie_one : (x y : X) → upto x y ≡ true → upto y x ≡ true → tie x y ≡ 1
  tie_one x y p q = λ i. cond (p i) (cond (q i) 1 0) 0

  own : (x : X) → tie x x ≡ 1
  own x = tie_one x x (itself x) (itself x)

  -- level entries tie with the same entries
  tie_same : (x y : X) → upto x y ≡ true → upto y x ≡ true → (z : X) → tie z x ≡ tie z y
  tie_same x y p q z = λ i. cond (to i) (cond (from i) 1 0) 0
    where
      to : upto z x ≡ upto z y
      to = either_way (upto z x)
          (λ a. a ∙ sym (chain z x y a p))
          (λ a. either_way (upto z y) (λ b. absurd (both_ways (upto z x) a (chain z y x b q))) (λ b. a ∙ sym b))

      from : upto x z ≡ upto y z
      from = either_way (upto x z)
          (λ a. a ∙ sym (chain y x z q a))
          (λ a. either_way (upto y z) (λ b. absurd (both_ways (upto x z) a (chain x y z p b))) (λ b. a ∙ sym b))

  -- an entry may leave before what ties with one of those that it may leave before
  before_tied : (x y : X) (l : List X) → Least upto y l → 0 < ties x l → upto y x ≡ true
  before_tied x y [] h some = absurd (omega arith)
  before_tied x y (z ∷ l) h some = either_way (upto z x)
      (λ e. chain y z x h.0 e)
      (λ e.
      let none : tie x z ≡ 0 = (λ i. cond (upto x z) (cond (e i) 1 0) 0) ∙ either_way (upto x z) (λ a i. cond (a i) 0 0) (λ a i. cond (a i) 0 0) in
      before_tied x y l h.1 (omega (arith, more x z l)))

  module _ {K : Type 0} (key : X → K) (level : (x y : X) → upto x y ≡ true → upto y x ≡ true → key x ≡ key y) where
    -- lists that ascend and have the same ties have the same keys
    same_keys : (xs ys : List X) → Ascending upto xs → Ascending upto ys → ((z : X) → ties z xs ≡ ties z ys) → map key xs ≡ map key ys
    same_keys [] [] p q e = refl
    same_keys [] (y ∷ ys) p q e = absurd (omega (arith, e y, more y y ys, own y))
    same_keys (x ∷ xs) [] p q e = absurd (omega (arith, e x, more x x xs, own x))
    same_keys (x ∷ xs) (y ∷ ys) p q e =
        let yx : upto y x ≡ true = before_tied x y (y ∷ ys) (itself y, q.0) (omega (arith, e x, more x x xs, own x)) in
        let xy : upto x y ≡ true = before_tied y x (x ∷ xs) (itself x, p.0) (omega (arith, e y, more y y ys, own y)) in
        λ i. level x y xy yx i ∷ same_keys xs ys p.1 q.1 (λ z. omega (arith, e z, more z x xs, more z y ys, tie_same x y xy yx z)) i

    -- however the same entries stand, their keys in order are the same
    pub keys_any_order : (xs ys : List X) → IsPermutation xs ys → keys_in_order key upto xs ≡ keys_in_order key upto ys
    keys_any_order xs ys w = same_keys (sorted upto xs) (sorted upto ys) (sorted_ascends xs) (sorted_ascends ys) (λ z.
        sum_by-IsPermutation (tie z) xs _ (shuffled_sorted upto xs) ∙ sym (sum_by-IsPermutation (tie z) xs ys w) ∙ sym (sum_by-IsPermutation (tie z) ys _ (shuffled_sorted upto ys)))

    -- of the keys in order, that of an entry that may leave before all others is the first
    pub keys_least_first : (xs ys : List X) (x : X) → IsPermutation xs (x ∷ ys) → Least upto x ys → keys_in_order key upto xs ≡ key x ∷ keys_in_order key upto ys
    keys_least_first xs ys x w h = keys_any_order xs (x ∷ ys) w ∙ ap (map key) (insert_least upto x (sorted upto ys) (all_sorted upto (λ y. upto x y ≡ true) ys h))

    pub sorted_laws : SortedLaws key upto
    sorted_laws = record {
      entries = shuffled_sorted upto;
      ascending = sorted_ascends;
      any_order = keys_any_order;
      least_first = λ xs ys x w h. keys_least_first xs ys x w (all_shuffled (λ y. upto x y ≡ true) _ _ w h).1;
    }
