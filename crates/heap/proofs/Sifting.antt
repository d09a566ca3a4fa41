-- What one exchange of a sift keeps, and what it has reached where it stops.
use Rattle.std.proofs.Common.{◌≡◌, ℕ, zero, suc, ◌+◌, ◌-◌, ◌*◌, ◌/◌, ◌<◌, ◌≤◌, Bool, true, false, List, length, get_or, sym, refl, ap, ◌∙◌, ⊎_elim, arith}
use Rattle.std.proofs.lemmas.Bool.{cases_eq}
use Rattle.heap.specs.Order.{Heaped}
use Rattle.heap.specs.Sifting.{Rising, Gap, Lesser}

-- a fact, whether two places are the same or not
whether : (a b : ℕ) {G : Type 0} → (a ≡ b → G) → ((a ≡ b → ⊥) → G) → G
whether a b same apart = ⊎_elim same apart (cases_eq a b)

-- the entries at i and j have changed places, and no other
abbrev pub Swapped : {X : Type 0} → List X → List X → ℕ → ℕ → Type 0
Swapped {X} xs ys i j = ((d : X) → get_or ys i d ≡ get_or xs j d) × ((d : X) → get_or ys j d ≡ get_or xs i d) × ((k : ℕ) (d : X) → (k ≡ i → ⊥) → (k ≡ j → ⊥) → get_or ys k d ≡ get_or xs k d)

module _ {X : Type 0} (upto : X → X → Bool) where
  -- what is known of two entries is known of the same entries in another list
  by : {a b x y : X} → a ≡ x → b ≡ y → upto x y ≡ true → upto a b ≡ true
  by p q h = (λ k. upto (p k) (q k)) ∙ h

  -- heap order, between a parent and one of its two children
  pub child : (xs : List X) → Heaped upto xs → (p k : ℕ) (d : X) → p * 2 + 1 ≤ k → k ≤ p * 2 + 2 → k < length xs → upto (get_or xs p d) (get_or xs k d) ≡ true
  child xs h p k d a b f = let e : p ≡ (k - 1) / 2 = omega arith in by (ap (λ (m : ℕ). get_or xs m d) e) refl (h k d (omega arith, f))

module _ {X : Type 0} (upto : X → X → Bool) (total : (x y : X) → upto x y ≡ false → upto y x ≡ true) where
  -- an entry is level with itself
  self : (x : X) (b : Bool) → upto x x ≡ b → upto x x ≡ true
  self x true e = e
  self x false e = total x x e

  pub at_same : (xs : List X) (i j : ℕ) (d : X) → i ≡ j → upto (get_or xs i d) (get_or xs j d) ≡ true
  at_same xs i j d e = by upto (ap (λ (m : ℕ). get_or xs m d) e) refl (self (get_or xs j d) _ refl)

  -- which child leaves first: the left one where it is the only one, or else the one that the test says
  pub left_lesser : (xs : List X) (j c r : ℕ) → c ≡ j * 2 + 1 → r ≡ c + 1 → ((d : X) → r < length xs → upto (get_or xs c d) (get_or xs r d) ≡ true) → Lesser upto xs j c
  unfolding Lesser
  left_lesser xs j c r e next t = λ k d a b f. whether k c
      (λ s. at_same xs c k d (sym s))
      (λ u. let s : k ≡ r = omega arith in by upto refl (ap (λ (m : ℕ). get_or xs m d) s) (t d (omega arith)))

  pub right_lesser : (xs : List X) (j c r : ℕ) → c ≡ j * 2 + 1 → r ≡ c + 1 → ((d : X) → upto (get_or xs c d) (get_or xs r d) ≡ false) → Lesser upto xs j r
  unfolding Lesser
  right_lesser xs j c r e next t = λ k d a b f. whether k c
      (λ s. by upto refl (ap (λ (m : ℕ). get_or xs m d) s) (total _ _ (t d)))
      (λ u. at_same xs r k d (omega arith))

  module _ (chain : (x y z : X) → upto x y ≡ true → upto y z ≡ true → upto x z ≡ true) where
    -- the first entry of a heap may leave before each: by way of its parents
    pub first_least : (xs : List X) (d : X) → Heaped upto xs → (fuel k : ℕ) → k ≤ fuel → k < length xs → upto (get_or xs 0 d) (get_or xs k d) ≡ true
    first_least xs d h zero k a b = at_same xs 0 k d (omega arith)
    first_least xs d h (suc fuel) k a b = whether k 0
        (λ e. at_same xs 0 k d (sym e))
        (λ u. chain _ _ _ (first_least xs d h fuel ((k - 1) / 2) (omega arith) (omega arith)) (h k d (omega arith, b)))

    -- the entry at j and its child at c change places
    module _ (xs ys : List X) (j c : ℕ) (long : length ys ≡ length xs) (from : j * 2 + 1 ≤ c) (to : c ≤ j * 2 + 2) (within : c < length xs) (w : Swapped xs ys j c) where
      -- up: the child leaves before its parent
      pub rises : ((d : X) → upto (get_or xs j d) (get_or xs c d) ≡ false) → Rising upto xs c → Rising upto ys j
      unfolding Rising
      rises t h = (
        λ p k d a b f u. whether p j
            (λ e. whether k c
            (λ s. by upto (ap (λ (m : ℕ). get_or ys m d) e ∙ w.0 d) (ap (λ (m : ℕ). get_or ys m d) s ∙ w.1 d) (total _ _ (t d)))
            (λ s. by upto (ap (λ (m : ℕ). get_or ys m d) e ∙ w.0 d) (w.2 k d u s) (chain _ _ _ (total _ _ (t d)) (h.0 j k d (omega arith) (omega arith) (omega arith) s))))
            (λ v. whether p c
            (λ e. by upto (ap (λ (m : ℕ). get_or ys m d) e ∙ w.1 d) (w.2 k d u (omega arith)) (h.1 j k d from to (omega arith) (omega arith) (omega arith)))
            (λ s. by upto (w.2 p d v s) (w.2 k d u (omega arith)) (h.0 p k d a b (omega arith) (omega arith)))),
        λ p k d a b f g i.
            let over = h.0 p j d a b (omega arith) (omega arith) in
            let same = w.2 p d (omega arith) (omega arith) in
            whether k c
            (λ e. by upto same (ap (λ (m : ℕ). get_or ys m d) e ∙ w.1 d) over)
            (λ s. by upto same (w.2 k d (omega arith) s) (chain _ _ _ over (h.0 j k d f g (omega arith) s))),
      )

      -- down: the child is the one that leaves first
      pub falls : Lesser upto xs j c → Gap upto xs j → Gap upto ys c
      unfolding Gap Lesser
      falls best h = (
        λ p k d a b f u s. whether p j
            (λ e. by upto (ap (λ (m : ℕ). get_or ys m d) e ∙ w.0 d) (w.2 k d (omega arith) s) (best k d (omega arith) (omega arith) (omega arith)))
            (λ v. whether k j
            (λ e. by upto (w.2 p d v u) (ap (λ (m : ℕ). get_or ys m d) e ∙ w.0 d) (h.1 p c d (omega arith) (omega arith) from to within))
            (λ q. by upto (w.2 p d v u) (w.2 k d q s) (h.0 p k d a b (omega arith) v q))),
        λ p k d a b f g i.
            let e : p ≡ j = omega arith in
            by upto (ap (λ (m : ℕ). get_or ys m d) e ∙ w.0 d) (w.2 k d (omega arith) (omega arith)) (h.0 c k d f g (omega arith) (omega arith) (omega arith)),
      )

  -- going down ends where no child leaves before the entry
  pub rests : (xs : List X) (j : ℕ) → ((k : ℕ) (d : X) → j * 2 + 1 ≤ k → k ≤ j * 2 + 2 → k < length xs → upto (get_or xs j d) (get_or xs k d) ≡ true) → Gap upto xs j → Rising upto xs j
  unfolding Gap Rising
  rests xs j under h = (
    λ p k d a b f u. whether p j
        (λ e. by upto (ap (λ (m : ℕ). get_or xs m d) e) refl (under k d (omega arith) (omega arith) f))
        (λ v. h.0 p k d a b f v u),
    h.1,
  )

  -- going up ends where the entry does not leave before its parent
  pub risen : (xs : List X) (j : ℕ) → ((d : X) → 0 < j → upto (get_or xs ((j - 1) / 2) d) (get_or xs j d) ≡ true) → Rising upto xs j → Heaped upto xs
  unfolding Rising
  risen xs j over h = λ k d b. whether k j
      (λ e. by upto (ap (λ (m : ℕ). get_or xs ((m - 1) / 2) d) e) (ap (λ (m : ℕ). get_or xs m d) e) (over d (omega arith)))
      (h.0 ((k - 1) / 2) k d (omega arith) (omega arith) b.1)
