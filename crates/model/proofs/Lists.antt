-- Elements by their place: found, replaced, mapped, summed.
use Rattle.std.proofs.Common.{◌≡◌, ℕ, zero, suc, ◌+◌, ◌≤◌, List, [], ◌∷◌, map, set, Some, None, Option, sym, refl, ap, subst, ap₂, arith}
use Rattle.std.specs.List.{slice_get, AllByRecursion}
use Rattle.duty.specs.Sums.{total}

pub none_some : {A : Type 0} {x : A} → ◌≡◌ {A = Option A} None (Some x) → ⊥
none_some e = let z : ◌≡◌ {A = ℕ} 0 1 = cc in omega arith

pub some_same : {A : Type 0} {x y : A} → Some x ≡ Some y → x ≡ y
some_same e = cc

module _ {A : Type 0} where
  pub nth_set_same : (xs : List A) (i : ℕ) (x y : A) → slice_get xs i ≡ Some x → slice_get (set xs i y) i ≡ Some y
  nth_set_same [] i x y h = absurd (none_some h)
  nth_set_same (z ∷ xs) zero x y h = refl
  nth_set_same (z ∷ xs) (suc i) x y h = nth_set_same xs i x y h

  pub nth_set_other : (xs : List A) (i j : ℕ) (y : A) → (i ≡ j → ⊥) → slice_get (set xs i y) j ≡ slice_get xs j
  nth_set_other [] i j y h = refl
  nth_set_other (z ∷ xs) zero zero y h = absurd (h refl)
  nth_set_other (z ∷ xs) zero (suc j) y h = refl
  nth_set_other (z ∷ xs) (suc i) zero y h = refl
  nth_set_other (z ∷ xs) (suc i) (suc j) y h = nth_set_other xs i j y (λ e. h (ap suc e))

  -- what holds of each element holds of the one at a place
  pub all_nth : (P : A → Type 0) (xs : List A) (i : ℕ) (x : A) → AllByRecursion P xs → slice_get xs i ≡ Some x → P x
  all_nth P [] i x a h = absurd (none_some h)
  all_nth P (y ∷ xs) zero x a h = subst P (some_same h) a.0
  all_nth P (y ∷ xs) (suc i) x a h = all_nth P xs i x a.1 h

  pub all_both : (P Q : A → Type 0) (xs : List A) → AllByRecursion P xs → AllByRecursion Q xs → AllByRecursion (λ x. P x × Q x) xs
  all_both P Q [] p q = tt
  all_both P Q (x ∷ xs) p q = ((p.0, q.0), all_both P Q xs p.1 q.1)

  -- sums: one element replaced; one element alone
  pub total_set : (f : A → ℕ) (xs : List A) (i : ℕ) (x y : A) → slice_get xs i ≡ Some x → total f (set xs i y) + f x ≡ total f xs + f y
  total_set f [] i x y h = absurd (none_some h)
  total_set f (z ∷ xs) zero x y h = let e : z ≡ x = some_same h in rw e (omega arith)
  total_set f (z ∷ xs) (suc i) x y h = omega (arith, total_set f xs i x y h)

  pub total_has : (f : A → ℕ) (xs : List A) (i : ℕ) (x : A) → slice_get xs i ≡ Some x → f x ≤ total f xs
  total_has f [] i x h = absurd (none_some h)
  total_has f (y ∷ xs) zero x h = let e : y ≡ x = some_same h in rw (← e) (omega arith)
  total_has f (y ∷ xs) (suc i) x h = omega (arith, total_has f xs i x h)

module _ {A B : Type 0} (f : A → B) where
  pub nth_map : (xs : List A) (i : ℕ) (x : A) → slice_get xs i ≡ Some x → slice_get (map f xs) i ≡ Some (f x)
  nth_map [] i x h = absurd (none_some h)
  nth_map (y ∷ xs) zero x h = ap (λ (z : A). Some (f z)) (some_same h)
  nth_map (y ∷ xs) (suc i) x h = nth_map xs i x h

  -- an element of a mapped list comes from one of the list
  pub record Source (xs : List A) (i : ℕ) (y : B) : Type 0 where
    pub origin : A
    pub there : slice_get xs i ≡ Some origin
    pub gives : f origin ≡ y

  pub nth_source : (xs : List A) (i : ℕ) (y : B) → slice_get (map f xs) i ≡ Some y → Source xs i y
  nth_source [] i y h = absurd (none_some h)
  nth_source (x ∷ xs) zero y h = record { origin = x; there = refl; gives = some_same h }
  nth_source (x ∷ xs) (suc i) y h = let s = nth_source xs i y h in record { origin = s.origin; there = s.there; gives = s.gives }

  -- what f does not see may change
  pub map_set_same : (xs : List A) (i : ℕ) (x y : A) → slice_get xs i ≡ Some x → f y ≡ f x → map f (set xs i y) ≡ map f xs
  map_set_same [] i x y h e = refl
  map_set_same (z ∷ xs) zero x y h e = ap (λ (w : B). w ∷ map f xs) (subst (λ (v : A). f y ≡ f v) (sym (some_same h)) e)
  map_set_same (z ∷ xs) (suc i) x y h e = ap (λ (ws : List B). f z ∷ ws) (map_set_same xs i x y h e)

  pub map_same : (g : A → A) → ((x : A) → f (g x) ≡ f x) → (xs : List A) → map f (map g xs) ≡ map f xs
  map_same g e [] = refl
  map_same g e (x ∷ xs) = ap₂ (λ (w : B) (ws : List B). w ∷ ws) (e x) (map_same g e xs)
