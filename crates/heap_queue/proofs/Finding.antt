-- Looking for the entry of a place.
use Rattle.std.proofs.Common.{◌≡◌, ℕ, suc, ◌+◌, ◌≤◌, Bool, true, false, cond, not, ltb, List, [], ◌∷◌, length, get_or, Some, None, ◌==◌, refl, ◌∙◌, arith}
use Rattle.std.specs.List.{position, position_or_len, slice_get}
use Rattle.std.proofs.lemmas.List.Quantifiers.{position-Some}
use Rattle.std.proofs.lemmas.Option.{slice_get-get_or}
use Rattle.std.proofs.lemmas.Bool.{eqb-true, ltb-false}
use Rattle.heap_queue.specs.Entries.{tally}
use Rattle.heap_queue.specs.Tallies.{tally_more}
use Rattle.heap_queue.specs.declared.timed.Timed.{Timed}

module _ (p : ℕ) where
  -- an entry that was found is there, and of the place
  pub found : (es : List Timed) (i : ℕ) → position (λ e. e.place == p) es ≡ Some i → (e : Timed) × (slice_get es i ≡ Some e) × (e.place ≡ p)
  found es i is =
      let d : Timed = record { deadline = 0; place = p } in
      let at = position-Some (λ e. e.place == p) es i d is in
      (get_or es i d, slice_get-get_or es i d at.0, eqb-true _ _ at.1)

  past : (es : List Timed) → length es ≤ position_or_len (λ e. e.place == p) es → tally p es ≡ 0
  past [] h = refl
  past (e ∷ es) h = tally_more p e es ∙ by (e.place == p) h (past es)
    where
      by : (b : Bool) → suc (length es) ≤ cond (not b) (1 + position_or_len (λ e. e.place == p) es) 0 → (length es ≤ position_or_len (λ e. e.place == p) es → tally p es ≡ 0) → cond b 1 0 + tally p es ≡ 0
      by true h k = absurd (omega arith)
      by false h k = omega (arith, k (omega arith))

  -- where none was found, the place stands nowhere
  pub absent : (es : List Timed) → position (λ e. e.place == p) es ≡ None → tally p es ≡ 0
  absent es = by (ltb (position_or_len (λ e. e.place == p) es) (length es)) refl
    where
      by : (b : Bool) → ltb (position_or_len (λ e. e.place == p) es) (length es) ≡ b → cond b (Some (position_or_len (λ e. e.place == p) es)) None ≡ None → tally p es ≡ 0
      by true t h = cc
      by false t h = past es (ltb-false _ _ t)
