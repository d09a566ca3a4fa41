-- Sums over a list, and the steps of a loop that adds one up.
use Rattle.std.specs.Prelude.{◌≡◌, ℕ, ◌+◌, ◌*◌, ◌<◌, ◌≤◌, List, [], ◌∷◌, map, length, get_or, drop, sum_by, slice_index_or, refl}
use Rattle.std.proofs.Common.{ap, add-mul, zero-mul, suc-mul, arith}
use Rattle.std.specs.List.{AllByRecursion}
use Rattle.std.proofs.lemmas.List.{at_drop_more, at_drop_all}
use Rattle.std.proofs.lemmas.List.Sums.{sum_by-cons, get_or-le-sum_by}
use Rattle.duty.specs.Sums.{total}

module _ {A : Type 0} (f : A → ℕ) where
  -- the library's sum is that total
  pub sum_by_total : (xs : List A) → sum_by f xs ≡ total f xs
  sum_by_total [] = refl
  sum_by_total (x ∷ xs) = omega (arith, sum_by-cons f x xs, sum_by_total xs)

  pub total_le : (g : A → ℕ) (xs : List A) → AllByRecursion (λ x. f x ≤ g x) xs → total f xs ≤ total g xs
  total_le g [] h = omega arith
  total_le g (x ∷ xs) h = omega (arith, h.0, total_le g xs h.1)

  pub total_same : (g : A → ℕ) (xs : List A) → AllByRecursion (λ x. f x ≡ g x) xs → total f xs ≡ total g xs
  total_same g [] h = refl
  total_same g (x ∷ xs) h = omega (arith, h.0, total_same g xs h.1)

  pub total_plus : (g : A → ℕ) (xs : List A) → total (λ x. f x + g x) xs ≡ total f xs + total g xs
  total_plus g [] = refl
  total_plus g (x ∷ xs) = omega (arith, total_plus g xs)

  pub total_times : (k : ℕ) (xs : List A) → total (λ x. f x * k) xs ≡ total f xs * k
  total_times k [] = omega (arith, zero-mul k)
  total_times k (x ∷ xs) = omega (arith, add-mul (f x) (total f xs) k, total_times k xs)

  pub total_most : (m : ℕ) (xs : List A) → AllByRecursion (λ x. f x ≤ m) xs → total f xs ≤ length xs * m
  total_most m [] h = omega (arith, zero-mul m)
  total_most m (x ∷ xs) h = omega (arith, suc-mul (length xs) m, h.0, total_most m xs h.1)

  pub total_map : {B : Type 0} (g : B → A) (ys : List B) → total f (map g ys) ≡ total (λ y. f (g y)) ys
  total_map g [] = refl
  total_map g (y ∷ ys) = omega (arith, total_map g ys)

  -- each part is below what is above the whole
  pub part_fits : (m : ℕ) (xs : List A) → total f xs < m → (x : A) (i : ℕ) → i < length xs → x ≡ get_or xs i x → f x < m
  part_fits m xs under x i within e =
      omega (arith, ap f e, get_or-le-sum_by f xs i x within, sum_by_total xs)

  -- a loop that adds up: the sum so far and what is left give the whole
  module _ (xs : List A) (i sum : ℕ) (so_far : sum + total f (drop i xs) ≡ total f xs) where
    pub sum_more : (d : A) (v : ℕ) → i < length xs → v ≡ f (slice_index_or xs i d) → (sum + v) + total f (drop (i + 1) xs) ≡ total f xs
    sum_more d v within e =
        let more : total f (drop i xs) ≡ f (slice_index_or xs i d) + total f (drop (i + 1) xs) = at_drop_more (total f) xs i d within in
        omega arith

    -- each part is below what is above the whole
    pub sum_part : (d : A) (m : ℕ) → total f xs < m → i < length xs → f (slice_index_or xs i d) < m
    sum_part d m under within = omega (arith, sum_more d (f (slice_index_or xs i d)) within refl)

    pub sum_all : length xs ≤ i → sum ≡ total f xs
    sum_all past =
        let none : total f (drop i xs) ≡ 0 = at_drop_all (total f) xs i past in
        omega arith
