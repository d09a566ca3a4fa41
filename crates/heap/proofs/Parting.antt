-- The entry at one place goes to the end of a heap, and the others settle.
use Rattle.std.proofs.Common.{◌≡◌, ℕ, ◌+◌, ◌-◌, ◌<◌, Bool, true, List, [], ◌∷◌, ◌++◌, length, get_or, take, drop, sym, refl, ap, ◌∙◌, subst, arith}
use Rattle.std.specs.List.Sorted.{IsPermutation}
use Rattle.std.proofs.lemmas.List.{take_at, take-append-drop, drop_more, drop_all, get_or-take, length-take-le}
use Rattle.std.proofs.lemmas.List.Sorted.{IsPermutation-to_front, IsPermutation-sym, IsPermutation-trans, IsPermutation-cons, length_permutation, IsPermutation-refl}
use Rattle.heap.specs.Order.{Heaped}
use Rattle.heap.specs.Sifting.{Gap}
use Rattle.heap.proofs.Sifting.{Swapped, child}

-- a list that has entries gives one
with_some : {X G : Type 0} (xs : List X) → 0 < length xs → (X → G) → G
with_some [] some f = absurd (omega arith)
with_some (x ∷ xs) some f = f x

-- lists that are equal have the same entries
pub same : {X : Type 0} (xs ys : List X) → xs ≡ ys → IsPermutation xs ys
same xs ys e = subst (IsPermutation xs) e (IsPermutation-refl xs)

-- the last entry, and those before it
pub last_apart : {X : Type 0} (xs ys : List X) (k : ℕ) (d : X) → k + 1 ≡ length xs → IsPermutation (take k xs) ys → IsPermutation xs (get_or xs k d ∷ ys)
last_apart xs ys k d is t =
    let x = get_or xs k d in
    let one : drop k xs ≡ x ∷ [] = drop_more xs k d (omega arith) ∙ ap (λ l. x ∷ l) (drop_all (k + 1) xs (omega arith)) in
    let cut : xs ≡ take k xs ++ x ∷ [] = sym (take-append-drop k xs) ∙ ap (λ l. take k xs ++ l) one in
    IsPermutation-trans _ _ _ (same _ _ cut) (IsPermutation-trans _ _ _ (IsPermutation-to_front (take k xs) x) (IsPermutation-cons x _ _ t))

-- after the exchange of the entries at i and at the end (ws), the first k entries became ys
module _ {X : Type 0} (xs ws ys : List X) (i k : ℕ) (within : i < length xs) (is : k ≡ length xs - 1) (long : length ws ≡ length xs) (w : Swapped xs ws i (length xs - 1)) (s : IsPermutation xs ws) (t : IsPermutation (take k ws) ys) where
  long_part : length (take k ws) ≡ length xs - 1
  long_part = length-take-le k ws (omega arith) ∙ is

  long_rest : length ys ≡ length xs - 1
  long_rest = length_permutation _ ys t ∙ long_part

  end : (d : X) → drop k ws ≡ get_or ws k d ∷ []
  end d = drop_more ws k d (omega arith) ∙ ap (λ l. get_or ws k d ∷ l) (drop_all (k + 1) ws (omega arith))

  pub moved_shuffled : IsPermutation xs (ys ++ drop k ws)
  moved_shuffled = with_some xs (omega arith) (λ d.
      IsPermutation-trans _ _ _ s
      (IsPermutation-trans _ _ _ (last_apart ws ys k d (omega arith) t)
      (IsPermutation-trans _ _ _ (IsPermutation-sym _ _ (IsPermutation-to_front ys (get_or ws k d))) (same _ _ (ap (λ l. ys ++ l) (sym (end d)))))))

  pub moved_last : (d : X) → get_or (ys ++ drop k ws) (length xs - 1) d ≡ get_or xs i d
  moved_last d =
      let here : length xs - 1 ≡ length ys = sym long_rest in
      ap (λ l. get_or (ys ++ l) (length xs - 1) d) (end d)
      ∙ ap (λ (m : ℕ). get_or (ys ++ get_or ws k d ∷ []) m d) here
      ∙ at_end ys
      ∙ ap (λ (m : ℕ). get_or ws m d) is
      ∙ w.1 d
    where
      at_end : (l : List X) → get_or (l ++ get_or ws k d ∷ []) (length l) d ≡ get_or ws k d
      at_end [] = refl
      at_end (x ∷ l) = at_end l

  pub moved_heaped : (upto : X → X → Bool) → ((x y z : X) → upto x y ≡ true → upto y z ≡ true → upto x z ≡ true) → (Gap upto (take k ws) i → Heaped upto ys) → Heaped upto xs → Heaped upto (take (length xs - 1) (ys ++ drop k ws))
  unfolding Gap
  moved_heaped upto chain settled h =
      let lp = long_part in
      let old = λ (q : ℕ) (d : X) (a : q < length xs - 1) (u : q ≡ i → ⊥). get_or-take k ws q d (omega arith) ∙ w.2 q d u (omega arith) in
      subst (Heaped upto) (sym (take_at ys (drop k ws) (length xs - 1) long_rest)) (settled (
        λ p q d a b f u v. (λ j. upto (old p d (omega arith) u j) (old q d (omega arith) v j)) ∙ child upto xs h p q d a b (omega arith),
        λ p q d a b f g l. (λ j. upto (old p d (omega arith) (omega arith) j) (old q d (omega arith) (omega arith) j)) ∙ chain _ _ _ (child upto xs h p i d a b within) (child upto xs h i q d f g (omega arith)),
      ))
