-- Tests of each element of a list and of each number up to one, and the steps of a loop that makes one.
use Rattle.std.specs.Prelude.{◌≡◌, ℕ, zero, suc, ◌+◌, ◌<◌, ◌≤◌, Bool, true, false, ◌&&◌, List, [], ◌∷◌, map, length, drop, slice_index_or, refl}
use Rattle.std.proofs.Common.{⊎_elim, sym, ap, ◌∙◌, arith}
use Rattle.std.specs.List.{AllByRecursion}
use Rattle.std.proofs.lemmas.List.{at_drop_more, at_drop_all}
use Rattle.std.proofs.lemmas.Bool.{true≢false, and_parts, and_from, and_left, and_cases, both_ways, cases_Bool, cases_eq}
use Rattle.gauge.specs.Each.{each, each_to}

module _ {A : Type 0} (p : A → Bool) where
  pub all_from_each : (xs : List A) → each p xs ≡ true → AllByRecursion (λ x. p x ≡ true) xs
  all_from_each [] e = tt
  all_from_each (x ∷ xs) e = let b = and_parts (p x) (each p xs) e in (b.0, all_from_each xs b.1)

  pub each_weaker : (q : A → Bool) → ((x : A) → p x ≡ true → q x ≡ true) → (xs : List A) → each p xs ≡ true → each q xs ≡ true
  each_weaker q h [] e = refl
  each_weaker q h (x ∷ xs) e =
      let b = and_parts (p x) (each p xs) e in
      and_from (q x) (each q xs) (h x b.0) (each_weaker q h xs b.1)

  pub each_map : {B : Type 0} (g : B → A) (ys : List B) → each p (map g ys) ≡ each (λ y. p (g y)) ys
  each_map g [] = refl
  each_map g (y ∷ ys) = ap (λ b. p (g y) && b) (each_map g ys)

  -- a loop that stops at the first failure: what is left decides
  module _ (xs : List A) (i : ℕ) (left : each p (drop i xs) ≡ each p xs) where
    pub each_more : (d : A) → i < length xs → p (slice_index_or xs i d) ≡ true → each p (drop (i + 1) xs) ≡ each p xs
    each_more d within e =
        let more : each p (drop i xs) ≡ (p (slice_index_or xs i d) && each p (drop (i + 1) xs)) = at_drop_more (each p) xs i d within in
        sym (sym left ∙ more ∙ ap (λ b. b && each p (drop (i + 1) xs)) e)

    pub each_stops : (d : A) → i < length xs → p (slice_index_or xs i d) ≡ false → each p xs ≡ false
    each_stops d within e = sym left ∙ at_drop_more (each p) xs i d within ∙ and_left (p (slice_index_or xs i d)) (each p (drop (i + 1) xs)) e

    pub each_all : length xs ≤ i → each p xs ≡ true
    each_all past = sym left ∙ at_drop_all (each p) xs i past

module _ (p : ℕ → Bool) where
  pub each_to_from : (n : ℕ) → ((t : ℕ) → 1 ≤ t → t ≤ n → p t ≡ true) → each_to p n ≡ true
  each_to_from zero h = refl
  each_to_from (suc n) h =
      and_from (p (suc n)) (each_to p n) (h (suc n) (omega arith) (omega arith)) (each_to_from n (λ t a b. h t a (omega arith)))

  pub each_to_at : (n t : ℕ) → 1 ≤ t → t ≤ n → each_to p n ≡ true → p t ≡ true
  each_to_at zero t low high e = absurd (omega arith)
  each_to_at (suc n) t low high e =
      let b = and_parts (p (suc n)) (each_to p n) e in
      ⊎_elim (λ same. ap p same ∙ b.0) (λ other. each_to_at n t low (omega arith) b.1) (cases_eq t (suc n))

  pub each_to_fails : (n t : ℕ) → 1 ≤ t → t ≤ n → p t ≡ false → each_to p n ≡ false
  each_to_fails n t low high e =
      ⊎_elim (λ holds. absurd (both_ways (p t) e (each_to_at n t low high holds))) (λ fails. fails) (cases_Bool (each_to p n))

  -- where they do not all hold, one that fails
  pub each_to_failing : (n : ℕ) → each_to p n ≡ false → (t : ℕ) × (t ≤ n) × (p t ≡ false)
  each_to_failing zero e = absurd (true≢false e)
  each_to_failing (suc n) e =
      ⊎_elim
      (λ here. (suc n, omega arith, here))
      (λ below. let found = each_to_failing n below in (found.0, omega (arith, found.1), found.2))
      (and_cases (p (suc n)) (each_to p n) e)
