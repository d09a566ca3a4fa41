-- The place of the entry at the top is the first one.
use Rattle.std.proofs.Common.{◌≡◌, ℕ, zero, suc, ◌+◌, ◌<◌, ◌≤◌, Bool, true, false, cond, ◌&&◌, ◌||◌, eqb, ltb, leb, List, [], ◌∷◌, Some, None, Option, sym, refl, ap, ◌∙◌, arith}
use Rattle.std.specs.List.{slice_get}
use Rattle.std.specs.Option.{option_map}
use Rattle.std.proofs.lemmas.Bool.{eqb-true, ltb-true, ltb-false, leb-true, lt-ltb, le-ltb}
use Rattle.queue.specs.First.{Due, earlier, scan, earliest}
use Rattle.queue.specs.Places.{places}
use Rattle.heap.specs.Order.{Least}
use Rattle.heap.specs.Pairs.{pair_total, pair_chain}
use Rattle.heap.proofs.Popping.{answer_least}
use Rattle.heap_queue.specs.Entries.{deadline_at, deadlines_from, row, Sound}
use Rattle.heap_queue.specs.Order.{pair_of, sooner}
use Rattle.heap_queue.specs.declared.timed.Timed.{Timed}
use Rattle.heap_queue.specs.Tallies.{whether, tally_same, deadline_same}

abbrev due : ℕ → ℕ → Due
due p d = record { place = p; deadline = d }

-- the deadline d at the place p comes before v at the place k, or they are the same
abbrev Ahead : ℕ → ℕ → ℕ → ℕ → Type 0
Ahead p d k v = (d ≤ v) × (k < p → d < v)

ahead : (e f : Timed) → sooner e f ≡ true → Ahead e.place e.deadline f.place f.deadline
ahead e f = by (ltb e.deadline f.deadline) refl (eqb e.deadline f.deadline) refl (leb e.place f.place) refl
  where
    by : (t : Bool) → ltb e.deadline f.deadline ≡ t → (u : Bool) → eqb e.deadline f.deadline ≡ u → (w : Bool) → leb e.place f.place ≡ w → t || (u && w) ≡ true → Ahead e.place e.deadline f.place f.deadline
    by true et u eu w ew h = (omega (arith, ltb-true _ _ et), λ l. ltb-true _ _ et)
    by false et true eu true ew h = (omega (arith, eqb-true _ _ eu), λ l. absurd (omega (arith, leb-true _ _ ew)))
    by false et true eu false ew h = let z : ◌≡◌ {A = ℕ} 0 1 = cc in absurd (omega arith)
    by false et false eu w ew h = let z : ◌≡◌ {A = ℕ} 0 1 = cc in absurd (omega arith)

-- the least entry is ahead of every deadline
all_ahead : (e : Timed) (es : List Timed) → Least sooner e es → (k v : ℕ) → deadline_at es k ≡ Some v → Ahead e.place e.deadline k v
all_ahead e [] h k v is = let z : ◌≡◌ {A = ℕ} 0 1 = cc in absurd (omega arith)
all_ahead e (x ∷ es) h k v is = by (eqb x.place k) refl is (all_ahead e es h.1 k v)
  where
    by : (b : Bool) → eqb x.place k ≡ b → cond b (Some x.deadline) (deadline_at es k) ≡ Some v → (deadline_at es k ≡ Some v → Ahead e.place e.deadline k v) → Ahead e.place e.deadline k v
    by true t is rest =
        let f = ahead e x h.0 in
        let s : x.deadline ≡ v = cc in
        let q : x.place ≡ k = eqb-true _ _ t in
        (omega (arith, f.0, s), λ l. omega (arith, f.1 (omega (arith, q, l)), s))
    by false t is rest = rest is

-- after the first place, the scan keeps it
scan_keeps : (n at : ℕ) (b : Due) (es : List Timed) → ((k v : ℕ) → deadline_at es k ≡ Some v → b.deadline ≤ v) → scan (Some b) at (deadlines_from n at es) ≡ Some b
scan_keeps zero at b es h = refl
scan_keeps (suc n) at b es h = by (deadline_at es at) refl (scan_keeps n (at + 1) b es h)
  where
    by : (o : Option ℕ) → deadline_at es at ≡ o → scan (Some b) (at + 1) (deadlines_from n (at + 1) es) ≡ Some b → scan (earlier (Some b) at o) (at + 1) (deadlines_from n (at + 1) es) ≡ Some b
    by None e rest = rest
    by (Some v) e rest = ap (λ t. scan (cond t (Some (due at v)) (Some b)) (at + 1) (deadlines_from n (at + 1) es)) (le-ltb v b.deadline (h at v e)) ∙ rest

-- the best so far comes after d
abbrev Later : ℕ → Option Due → Type 0
Later d None = Unit {0}
Later d (Some b) = d < b.deadline

later_on : (d at : ℕ) (best : Option Due) (o : Option ℕ) → Later d best → ((v : ℕ) → o ≡ Some v → d < v) → Later d (earlier best at o)
later_on d at best None a h = a
later_on d at None (Some v) a h = h v refl
later_on d at (Some b) (Some v) a h = elim (ltb v b.deadline) as (λ t. Later d (cond t (Some (due at v)) (Some b))) [ true ↦ h v refl | false ↦ a ]

taken : (d at : ℕ) (best : Option Due) → Later d best → earlier best at (Some d) ≡ Some (due at d)
taken d at None a = refl
taken d at (Some b) a = ap (λ t. cond t (Some (due at d)) (Some b)) (lt-ltb d b.deadline a)

-- the scan comes to the first place
scan_finds : (n at p d : ℕ) (best : Option Due) (es : List Timed) → at ≤ p → p < at + n → deadline_at es p ≡ Some d → ((k v : ℕ) → deadline_at es k ≡ Some v → Ahead p d k v) → Later d best → scan best at (deadlines_from n at es) ≡ Some (due p d)
scan_finds zero at p d best es lo hi here h a = absurd (omega arith)
scan_finds (suc n) at p d best es lo hi here h a = whether at p
    (λ e.
    ap (λ o. scan (earlier best at o) (at + 1) (deadlines_from n (at + 1) es)) (ap (deadline_at es) e ∙ here)
    ∙ ap (λ o. scan o (at + 1) (deadlines_from n (at + 1) es)) (taken d at best a)
    ∙ scan_keeps n (at + 1) (due at d) es (λ k v i. (h k v i).0)
    ∙ ap (λ (q : ℕ). Some (due q d)) e)
    (λ u. scan_finds n (at + 1) p d (earlier best at (deadline_at es at)) es (omega arith) (omega arith) here h
    (later_on d at best (deadline_at es at) a (λ v i. (h at v i).1 (omega arith))))

place_low : (x : Timed) (es : List Timed) → Sound (x ∷ es) → x.place < places
place_low x es s = by (ltb x.place places) refl
  where
    by : (b : Bool) → ltb x.place places ≡ b → x.place < places
    by true t = ltb-true _ _ t
    by false t = let z = s.low x.place (ltb-false _ _ t) in let w = tally_same x es x.place refl in absurd (omega arith)

first_top : (x : Timed) (es : List Timed) → Least sooner x (x ∷ es) → Sound (x ∷ es) → Some x.place ≡ earliest (row (x ∷ es))
unfolding row
first_top x es least s =
    let l = place_low x es s in
    ap (option_map (λ (e : Due). e.place)) (sym (scan_finds places 0 x.place x.deadline None (x ∷ es) (omega arith) (omega arith) (deadline_same x es x.place refl) (all_ahead x (x ∷ es) least) tt))

-- no entry, no first place
first_none : None ≡ earliest (row [])
unfolding row
first_none = refl

-- what the top says of the first place
pub first_is : (es : List Timed) (r : Option Timed) → r ≡ slice_get es 0 → Sound es → option_map (λ e. e.place) r ≡ earliest (row es)
first_is [] r e s = ap (option_map (λ (x : Timed). x.place)) e ∙ first_none
first_is (x ∷ es) r e s =
    ap (option_map (λ (y : Timed). y.place)) e ∙ first_top x es (answer_least sooner (λ e f. pair_total (pair_of e) (pair_of f)) (λ e f g. pair_chain (pair_of e) (pair_of f) (pair_of g)) (x ∷ es) (Some x) refl s.ordered) s
