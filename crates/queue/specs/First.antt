-- Which place is first: the one with the smallest deadline, the lower one where equal.
use Rattle.std.specs.Prelude.{◌≡◌, ℕ, ◌+◌, ◌<◌, ◌≤◌, cond, ◌⊎◌, List, [], ◌∷◌, get_or, Some, None, Option, nat_lt, slice_index_or}
use Rattle.std.specs.Option.{option_map}

-- a place and its deadline
pub record Due : Type 0 where
  pub place : ℕ
  pub deadline : ℕ

-- the earlier of the best so far and what a higher place has
abbrev pub earlier : Option Due → ℕ → Option ℕ → Option Due
earlier best place None = best
earlier None place (Some d) = Some (record { place = place; deadline = d })
earlier (Some e) place (Some d) = cond (nat_lt d e.deadline) (Some (record { place = place; deadline = d })) (Some e)

-- the best of what the places from `place` on have, and of the best so far
abbrev pub scan : Option Due → ℕ → List (Option ℕ) → Option Due
scan best place [] = best
scan best place (x ∷ rest) = scan (earlier best place x) (place + 1) rest

-- the first place
abbrev pub earliest : List (Option ℕ) → Option ℕ
earliest held = option_map (λ e. e.place) (scan None 0 held)

-- the place p has the deadline d, and every place that has one has a later one, or the same and is no lower
pub record FirstPlace (held : List (Option ℕ)) (p : ℕ) : Type 0 where
  pub deadline : ℕ
  pub has : get_or held p None ≡ Some deadline
  pub others : (q e : ℕ) → slice_index_or held q None ≡ Some e → (deadline < e) ⊎ ((deadline ≡ e) × (p ≤ q))

-- none just where no place has a deadline, and else the first place
abbrev pub Foremost : List (Option ℕ) → Option ℕ → Type 0
Foremost held None = (q : ℕ) → slice_index_or held q None ≡ None
Foremost held (Some p) = FirstPlace held p
