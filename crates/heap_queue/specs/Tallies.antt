-- How often a place stands among entries, and which deadline it has, in whatever order they stand.
use Rattle.std.specs.Prelude.{◌≡◌, ℕ, zero, suc, ◌+◌, ◌≤◌, Bool, true, false, cond, List, [], ◌∷◌, Some, None, sum_by, Option, ◌==◌, ◌≢◌, refl}
use Rattle.std.proofs.Common.{⊎_elim, sym, ap, ◌∙◌, zero-add, arith}
use Rattle.std.specs.List.Sorted.{IsPermutation}
use Rattle.std.proofs.lemmas.List.Sorted.{sum_by-IsPermutation}
use Rattle.std.proofs.lemmas.List.Sums.{sum_by-cons}
use Rattle.std.proofs.lemmas.Bool.{cases_eq, eq-eqb, ne_eqb}
use Rattle.heap_queue.specs.Entries.{deadline_at, tally}
use Rattle.heap_queue.specs.declared.timed.Timed.{Timed}

-- a fact, whether two places are the same or not
pub whether : (a b : ℕ) {G : Type 0} → (a ≡ b → G) → ((a ≢ b) → G) → G
whether a b same apart = ⊎_elim same apart (cases_eq a b)

pub tally_shuffled : (p : ℕ) (xs ys : List Timed) → IsPermutation xs ys → tally p ys ≡ tally p xs
tally_shuffled p = sum_by-IsPermutation (λ e. cond (e.place == p) 1 0)

pub tally_more : (p : ℕ) (e : Timed) (es : List Timed) → tally p (e ∷ es) ≡ cond (e.place == p) 1 0 + tally p es
tally_more p = sum_by-cons (λ e. cond (e.place == p) 1 0)

-- one entry more in front: of this place, or of another one
pub tally_same : (e : Timed) (es : List Timed) (p : ℕ) → e.place ≡ p → tally p (e ∷ es) ≡ 1 + tally p es
tally_same e es p h = tally_more p e es ∙ ap (λ b. cond b 1 0 + tally p es) (eq-eqb _ _ h)

pub tally_other : (e : Timed) (es : List Timed) (p : ℕ) → (e.place ≢ p) → tally p (e ∷ es) ≡ tally p es
tally_other e es p n = tally_more p e es ∙ ap (λ b. cond b 1 0 + tally p es) (ne_eqb _ _ n) ∙ zero-add (tally p es)

pub tally_grows : (e : Timed) (es : List Timed) (p : ℕ) → tally p es ≤ tally p (e ∷ es)
tally_grows e es p = whether e.place p (λ h. omega (arith, tally_same e es p h)) (λ n. omega (arith, tally_other e es p n))

pub deadline_same : (e : Timed) (es : List Timed) (p : ℕ) → e.place ≡ p → deadline_at (e ∷ es) p ≡ Some e.deadline
deadline_same e es p h = ap (λ b. cond b (Some e.deadline) (deadline_at es p)) (eq-eqb _ _ h)

pub deadline_other : (e : Timed) (es : List Timed) (p : ℕ) → (e.place ≢ p) → deadline_at (e ∷ es) p ≡ deadline_at es p
deadline_other e es p n = ap (λ b. cond b (Some e.deadline) (deadline_at es p)) (ne_eqb _ _ n)

-- the deadline of a place that stands at most once, read off a sum: one more than the deadline, or 0
abbrev worth : ℕ → Timed → ℕ
worth p e = cond (e.place == p) (e.deadline + 1) 0

abbrev read : ℕ → Option ℕ
read zero = None
read (suc n) = Some n

no_worth : (p : ℕ) (es : List Timed) → tally p es ≡ 0 → sum_by (worth p) es ≡ 0
no_worth p [] h = refl
no_worth p (e ∷ es) h = sum_by-cons (worth p) e es ∙ by (e.place == p) (sym (tally_more p e es) ∙ h) (no_worth p es)
  where
    by : (b : Bool) → cond b 1 0 + tally p es ≡ 0 → (tally p es ≡ 0 → sum_by (worth p) es ≡ 0) → cond b (e.deadline + 1) 0 + sum_by (worth p) es ≡ 0
    by true h k = absurd (omega arith)
    by false h k = omega (arith, k (omega arith))

deadline_read : (p : ℕ) (es : List Timed) → tally p es ≤ 1 → deadline_at es p ≡ read (sum_by (worth p) es)
deadline_read p [] h = refl
deadline_read p (e ∷ es) h = by (e.place == p) (omega (arith, tally_more p e es)) (deadline_read p es) ∙ ap read (sym (sum_by-cons (worth p) e es))
  where
    by : (b : Bool) → cond b 1 0 + tally p es ≤ 1 → (tally p es ≤ 1 → deadline_at es p ≡ read (sum_by (worth p) es)) → cond b (Some e.deadline) (deadline_at es p) ≡ read (cond b (e.deadline + 1) 0 + sum_by (worth p) es)
    by true h k = let z : e.deadline + 1 + sum_by (worth p) es ≡ suc e.deadline = omega (arith, no_worth p es (omega arith)) in sym (ap read z)
    by false h k = k (omega arith) ∙ ap read (sym (zero-add (sum_by (worth p) es)))

pub deadline_shuffled : (p : ℕ) (xs ys : List Timed) → IsPermutation xs ys → tally p xs ≤ 1 → deadline_at ys p ≡ deadline_at xs p
deadline_shuffled p xs ys s h = deadline_read p ys (omega (arith, tally_shuffled p xs ys s)) ∙ ap read (sum_by-IsPermutation (worth p) xs ys s) ∙ sym (deadline_read p xs h)

pub deadline_none : (p : ℕ) (es : List Timed) → tally p es ≡ 0 → deadline_at es p ≡ None
deadline_none p es h = deadline_read p es (omega arith) ∙ ap read (no_worth p es h)
