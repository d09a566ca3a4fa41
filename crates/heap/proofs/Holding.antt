-- What a heap holds after a push and after a removal, in its memory xs of which the first n slots are held.
use Rattle.std.proofs.Common.{◌≡◌, ℕ, ◌+◌, ◌-◌, ◌<◌, ◌≤◌, Bool, cond, Ok, Err, Result, List, ◌∷◌, ◌++◌, length, get_or, take, drop, set, sym, ap, ◌∙◌, subst, arith}
use Rattle.std.specs.List.Sorted.{IsPermutation}
use Rattle.std.proofs.lemmas.List.{take_at, drop_at, take-append-le, take_more_set, get_or-take, get_or-set_other, drop-set-lt, length-append, length-drop, length-set, length-take-le}
use Rattle.std.proofs.lemmas.List.Sorted.{IsPermutation-to_front, IsPermutation-sym, IsPermutation-trans, length_permutation, IsPermutation-refl}
use Rattle.std.proofs.lemmas.Bool.{lt-ltb}
use Rattle.heap.specs.declared.entry.Entry.{Ghosts}
use Rattle.heap.specs.declared.binary.Heap.{Heap}
use Rattle.heap.specs.Held.{held, room}
use Rattle.heap.specs.Calls.{Pushed}
use Rattle.heap.specs.Order.{Heaped}
use Rattle.heap.specs.Sifting.{Rising}
use Rattle.heap.proofs.Sifting.{child}
use Rattle.heap.proofs.Parting.{same, last_apart}

-- x was written into the slot at n, and the first n + 1 slots became ys
module _ {X : Type 0} (xs ys : List X) (n : ℕ) (x : X) (within : n < length xs) (w : IsPermutation (take (n + 1) (set xs n x)) ys) where
  held_long : length (take n xs) ≡ n
  held_long = length-take-le n xs (omega arith)

  long_part : length (take (n + 1) (set xs n x)) ≡ n + 1
  long_part = length-take-le (n + 1) (set xs n x) (omega (arith, length-set xs n x))

  long : length ys ≡ n + 1
  long = length_permutation _ ys w ∙ long_part

  pub pushed_room : length (ys ++ drop (n + 1) (set xs n x)) ≡ length xs
  pushed_room = omega (arith, length-append ys (drop (n + 1) (set xs n x)), length-drop (n + 1) (set xs n x), length-set xs n x, long)

  pub pushed_taken : IsPermutation (x ∷ take n xs) (take (n + 1) (ys ++ drop (n + 1) (set xs n x)))
  pushed_taken =
      subst (IsPermutation (x ∷ take n xs)) (sym (take_at ys (drop (n + 1) (set xs n x)) (n + 1) long))
      (IsPermutation-trans _ _ ys (IsPermutation-sym _ _ (IsPermutation-to_front (take n xs) x)) (IsPermutation-trans _ _ ys (same _ _ (sym (take_more_set xs n x within))) w))

  pub pushed_beyond : drop (length (take n xs) + 1) (ys ++ drop (n + 1) (set xs n x)) ≡ drop (length (take n xs) + 1) xs
  pushed_beyond = rw held_long (drop_at ys (drop (n + 1) (set xs n x)) (n + 1) long ∙ drop-set-lt (n + 1) xs n x (omega arith))

  -- from there it went up
  pub pushed_heaped : (upto : X → X → Bool) → (Rising upto (take (n + 1) (set xs n x)) n → Heaped upto ys) → Heaped upto (take n xs) → Heaped upto (take (n + 1) (ys ++ drop (n + 1) (set xs n x)))
  unfolding Rising
  pushed_heaped upto up h =
      let part = long_part in
      let old = λ (i : ℕ) (d : X) (a : i < n). get_or-take (n + 1) (set xs n x) i d (omega arith) ∙ get_or-set_other xs n i x d (omega arith) ∙ sym (get_or-take n xs i d a) in
      subst (Heaped upto) (sym (take_at ys (drop (n + 1) (set xs n x)) (n + 1) long)) (up (
        λ p q d a b f u. (λ i. upto (old p d (omega arith) i) (old q d (omega arith) i)) ∙ child upto (take n xs) h p q d a b (omega (arith, held_long)),
        λ p q d a b f g i. absurd (omega arith),
      ))

-- the entry at i of the first n slots went to their end, and they became ys
module _ {X : Type 0} (xs ys : List X) (n i : ℕ) (within : n ≤ length xs) (some : i < n) (w : IsPermutation (take n xs) ys) where
  held_is : length (take n xs) ≡ n
  held_is = length-take-le n xs within

  long_ys : length ys ≡ n
  long_ys = length_permutation _ ys w ∙ held_is

  left : take (n - 1) (ys ++ drop n xs) ≡ take (n - 1) ys
  left = take-append-le (n - 1) ys (drop n xs) (omega (arith, long_ys))

  pub removed_room : length (ys ++ drop n xs) ≡ length xs
  removed_room = omega (arith, length-append ys (drop n xs), length-drop n xs, long_ys)

  pub removed_others : (x : X) → get_or (take n xs) i x ≡ x → get_or ys (length (take n xs) - 1) x ≡ get_or (take n xs) i x → IsPermutation (take n xs) (x ∷ take (n - 1) (ys ++ drop n xs))
  removed_others x is last =
      let out : get_or ys (n - 1) x ≡ x = ap (λ (k : ℕ). get_or ys (k - 1) x) (sym held_is) ∙ last ∙ is in
      rw left (IsPermutation-trans _ _ _ w
      (subst (λ y. IsPermutation ys (y ∷ take (n - 1) ys)) out (last_apart ys (take (n - 1) ys) (n - 1) x (omega (arith, long_ys)) (IsPermutation-refl _))))

  pub removed_beyond : drop (length (take n xs)) (ys ++ drop n xs) ≡ drop (length (take n xs)) xs
  removed_beyond = rw held_is (drop_at ys (drop n xs) n long_ys)

  pub removed_heaped : (upto : X → X → Bool) → Heaped upto (take (length (take n xs) - 1) ys) → Heaped upto (take (n - 1) (ys ++ drop n xs))
  removed_heaped upto h = rw left (rw held_is at h)

-- what is pushed where there is room is taken
pub taken : {X : Type 0} {g : Ghosts X} {x : X} {before after : Heap X g} {answer : Result (Unit {0}) X} → Pushed x before answer after → length (held before) < room before → IsPermutation (x ∷ held before) (held after)
taken {x = x} pushed fits = rw (pushed.fits ∙ ap (λ b. cond b (Ok tt) (Err x)) (lt-ltb _ _ fits)) at pushed.taken
