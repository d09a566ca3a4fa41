-- What stays sound, and what the row is, when an entry leaves and when one comes.
use Rattle.std.proofs.Common.{◌≡◌, ℕ, ◌<◌, ◌≤◌, List, ◌∷◌, take, set, Some, None, Option, ◌==◌, sym, refl, ap, ◌∙◌, subst, arith}
use Rattle.std.specs.List.{position}
use Rattle.std.specs.List.Sorted.{IsPermutation}
use Rattle.heap.specs.declared.entry.Entry.{Ghosts}
use Rattle.heap.specs.declared.binary.Heap.{Heap}
use Rattle.heap.specs.Calls.{Removed}
use Rattle.heap.specs.Held.{held}
use Rattle.heap.specs.Order.{Heaped}
use Rattle.queue.specs.Places.{places}
use Rattle.heap_queue.specs.Entries.{row, tally, Sound, Without}
use Rattle.heap_queue.specs.Order.{sooner}
use Rattle.heap_queue.specs.declared.timed.Timed.{Timed}
use Rattle.heap_queue.proofs.Finding.{found, absent}
use Rattle.heap_queue.specs.Rows.{row_set}
use Rattle.heap_queue.specs.Tallies.{whether, tally_shuffled, tally_same, tally_other, tally_grows, deadline_same, deadline_other, deadline_shuffled, deadline_none}

-- the entry e leaves xs, and ys are left
module _ (xs ys : List Timed) (e : Timed) (s : IsPermutation xs (e ∷ ys)) (was : Sound xs) where
  out_gone : tally e.place ys ≡ 0
  out_gone = omega (arith, tally_same e ys e.place refl, tally_shuffled e.place xs (e ∷ ys) s, was.single e.place)

  out_sound : Heaped sooner ys → Sound ys
  out_sound o = record {
    ordered = o;
    single = λ k. omega (arith, tally_grows e ys k, tally_shuffled k xs (e ∷ ys) s, was.single k);
    low = λ k h. omega (arith, tally_grows e ys k, tally_shuffled k xs (e ∷ ys) s, was.low k h);
  }

  out_row : row ys ≡ set (row xs) e.place None
  out_row = row_set xs ys e.place None (deadline_none e.place ys out_gone) (λ k n.
      sym (deadline_other e ys k (λ h. n (sym h))) ∙ deadline_shuffled k xs (e ∷ ys) s (was.single k))

-- there was no entry of the place p to leave
pub none_leaves : (xs : List Timed) (p : ℕ) → position (λ e. e.place == p) xs ≡ None → Sound xs → Without p xs xs
none_leaves xs p is was =
    let gone = absent p xs is in
    record { sound = was; gone = gone; after = row_set xs xs p None (deadline_none p xs gone) (λ k n. refl) }

-- the entry of the place p was found at i, and taken out
pub one_leaves : {g : Ghosts Timed} (before after : Heap Timed g) (p i : ℕ) (r : Option Timed) → position (λ e. e.place == p) (held before) ≡ Some i → Removed i before r after → (Heaped sooner (held before) → Heaped sooner (held after)) → Sound (held before) → Without p (held before) (held after)
one_leaves before after p i r is out keeps was =
    let (e, at, of_p) = found p (held before) i is in
    let others : IsPermutation (held before) (e ∷ held after) = rw (out.which ∙ at) at out.others in
    subst (λ (q : ℕ). Without q (held before) (held after)) of_p (record {
      sound = out_sound (held before) (held after) e others was (keeps was.ordered);
      gone = out_gone (held before) (held after) e others was;
      after = out_row (held before) (held after) e others was;
    })

-- the entry e, of a place that has nothing, comes to xs, and they become ys
module _ (xs ys : List Timed) (e : Timed) (s : IsPermutation (e ∷ xs) ys) (gone : tally e.place xs ≡ 0) (was : Sound xs) where
  front : (k : ℕ) → tally k (e ∷ xs) ≤ 1
  front k = whether e.place k
      (λ h. let z : tally k xs ≡ 0 = ap (λ (i : ℕ). tally i xs) (sym h) ∙ gone in omega (arith, tally_same e xs k h, z))
      (λ n. omega (arith, tally_other e xs k n, was.single k))

  pub in_sound : e.place < places → Heaped sooner ys → Sound ys
  in_sound l o = record {
    ordered = o;
    single = λ k. omega (arith, tally_shuffled k (e ∷ xs) ys s, front k);
    low = λ k h. omega (arith, tally_shuffled k (e ∷ xs) ys s, tally_other e xs k (omega arith), was.low k h);
  }

  pub in_row : row ys ≡ set (row xs) e.place (Some e.deadline)
  in_row = row_set xs ys e.place (Some e.deadline)
      (deadline_shuffled e.place (e ∷ xs) ys s (front e.place) ∙ deadline_same e xs e.place refl)
      (λ k n. deadline_shuffled k (e ∷ xs) ys s (front k) ∙ deadline_other e xs k (λ h. n (sym h)))

-- what holds of the entries held holds of the first slots of the memory, as it is at the end
pub at_end : (P : List Timed → Type 0) (zs memory es : List Timed) (r : ℕ) → take r memory ≡ es → P es → zs ≡ memory → P (take r zs)
at_end P zs memory es r first p same = subst P (sym (ap (take r) same ∙ first)) p
