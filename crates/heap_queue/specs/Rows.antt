-- The row of what each place has, and the entries behind it.
use Rattle.std.specs.Prelude.{◌≡◌, ℕ, zero, suc, ◌+◌, ◌<◌, List, length, get_or, Option, ◌≢◌, slice_index_or, slice_set, refl}
use Rattle.std.proofs.Common.{sym, ap, ◌∙◌, arith}
use Rattle.std.proofs.lemmas.List.{same_lists, get_or-set_same, get_or-set_other, length-set}
use Rattle.queue.specs.Places.{places}
use Rattle.heap_queue.specs.Entries.{deadline_at, deadlines_from, row}
use Rattle.heap_queue.specs.declared.timed.Timed.{Timed}
use Rattle.heap_queue.specs.Tallies.{whether}

length_from : (n p : ℕ) (es : List Timed) → length (deadlines_from n p es) ≡ n
length_from zero p es = refl
length_from (suc n) p es = ap suc (length_from n (p + 1) es)

getD_from : (n p : ℕ) (es : List Timed) (k : ℕ) (d : Option ℕ) → k < n → slice_index_or (deadlines_from n p es) k d ≡ deadline_at es (p + k)
getD_from zero p es k d h = absurd (omega arith)
getD_from (suc n) p es zero d h = ap (deadline_at es) (let z : p ≡ p + 0 = omega arith in z)
getD_from (suc n) p es (suc k) d h = getD_from n (p + 1) es k d (omega arith) ∙ ap (deadline_at es) (let z : p + 1 + k ≡ p + suc k = omega arith in z)

pub length_row : (es : List Timed) → length (row es) ≡ places
unfolding row
length_row es = length_from places 0 es

getD_row : (es : List Timed) (k : ℕ) (d : Option ℕ) → k < places → slice_index_or (row es) k d ≡ deadline_at es k
unfolding row
getD_row es k d h = getD_from places 0 es k d h ∙ ap (deadline_at es) (let z : 0 + k ≡ k = omega arith in z)

-- one place has another deadline, and all others have theirs
pub row_set : (xs ys : List Timed) (p : ℕ) (v : Option ℕ) → deadline_at ys p ≡ v → ((k : ℕ) → (k ≢ p) → deadline_at ys k ≡ deadline_at xs k) → row ys ≡ slice_set (row xs) p v
row_set xs ys p v here others =
    let lx = length_row xs in
    let ly = length_row ys in
    let ls = length-set (row xs) p v in
    same_lists (row ys) (slice_set (row xs) p v) (omega arith) (λ k d h. getD_row ys k d (omega arith) ∙ at k d (omega arith))
  where
    at : (k : ℕ) (d : Option ℕ) → k < places → deadline_at ys k ≡ slice_index_or (slice_set (row xs) p v) k d
    at k d h = whether k p
        (λ e.
        let lx = length_row xs in
        ap (deadline_at ys) e ∙ here ∙ sym (get_or-set_same (row xs) p v d (omega arith)) ∙ ap (λ (i : ℕ). get_or (slice_set (row xs) p v) i d) (sym e))
        (λ n. others k n ∙ sym (getD_row xs k d h) ∙ sym (get_or-set_other (row xs) p k v d n))
