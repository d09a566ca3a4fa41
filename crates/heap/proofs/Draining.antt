-- Entries that leave one after another: none yet, and one more.
use Rattle.std.proofs.Common.{◌≡◌, ℕ, ◌+◌, ◌-◌, ◌<◌, ◌≤◌, Bool, true, List, [], ◌∷◌, ◌++◌, map, length, take, drop, set, Some, None, sym, refl, ap, ◌∙◌, subst, append_assoc, arith}
use Rattle.std.specs.List.{slice_get, AllByRecursion}
use Rattle.std.specs.List.Sorted.{IsPermutation}
use Rattle.std.proofs.ByRecursion.{All-push, All-weaker, all_shuffled}
use Rattle.std.proofs.lemmas.List.{drop-drop, drop-set-lt, take_more_set, length-append, length-take-le, map-append}
use Rattle.std.proofs.lemmas.List.Sorted.{length_permutation, IsPermutation-cons, IsPermutation-refl, IsPermutation-trans}
use Rattle.heap.specs.declared.entry.Entry.{Ghosts}
use Rattle.heap.specs.declared.binary.Heap.{Heap}
use Rattle.heap.specs.Order.{Heaped, Least}
use Rattle.heap.specs.Held.{held}
use Rattle.heap.specs.Calls.{Removed, Moved, Kept}
use Rattle.heap.specs.Sorted.{Ascending, keys_in_order}
use Rattle.heap.specs.Leaving.{Leaves, InOrder}

-- what follows the same entries may be shuffled alone
after_front : {X : Type 0} (front xs ys : List X) → IsPermutation xs ys → IsPermutation (front ++ xs) (front ++ ys)
after_front [] xs ys w = w
after_front (x ∷ front) xs ys w = IsPermutation-cons x _ _ (after_front front xs ys w)

-- where there is no first entry there is none
pub none_left : {X : Type 0} (xs : List X) → None ≡ slice_get xs 0 → length xs ≡ 0
none_left [] e = refl
none_left (x ∷ xs) e = absurd (let z : ◌≡◌ {A = ℕ} 0 1 = cc in omega arith)

-- lists that agree from m on agree from any later place on
drop_later : {X : Type 0} (xs ys : List X) (m n : ℕ) → m ≤ n → drop m xs ≡ drop m ys → drop n xs ≡ drop n ys
drop_later xs ys m n le e =
    let is : m + (n - m) ≡ n = omega arith in
    ap (λ (i : ℕ). drop i xs) (sym is) ∙ sym (drop-drop (n - m) m xs) ∙ ap (drop (n - m)) e ∙ drop-drop (n - m) m ys ∙ ap (λ (i : ℕ). drop i ys) is

one_more : {X : Type 0} (gone rest : List X) (x : X) → gone ++ x ∷ rest ≡ (gone ++ x ∷ []) ++ rest
one_more gone rest x = sym (append_assoc gone (x ∷ []) rest)

ascending_push : {X : Type 0} (upto : X → X → Bool) (gone : List X) (x : X) → Ascending upto gone → AllByRecursion (λ y. upto y x ≡ true) gone → Ascending upto (gone ++ x ∷ [])
ascending_push upto [] x up h = (tt, tt)
ascending_push upto (y ∷ gone) x up h = (All-push (λ z. upto y z ≡ true) gone x up.0 h.0, ascending_push upto gone x up.1 h.1)

module _ {X : Type 0} {g : Ghosts X} (before : Heap X g) (start : List X) where
  pub none_moved : Moved before start 0 before start
  none_moved = record { entries = IsPermutation-refl (held before); rest = refl }

  module _ (n : ℕ) (now' next : Heap X g) (out : List X) (moved : Moved before start n now' out) where
    -- as many have left as are held no more
    pub moved_count : n ≤ length out → length (held now') + n ≡ length (held before)
    moved_count fits = omega (arith, length_permutation _ _ moved.entries, length-append (take n out) (held now'), length-take-le n out fits)

    pub one_moved : (x : X) → n < length out → Removed 0 now' (Some x) next → Moved before start (n + 1) next (set out n x)
    one_moved x fits gone = record {
      entries = subst (IsPermutation (held before)) (one_more (take n out) (held next) x ∙ ap (λ l. l ++ held next) (sym (take_more_set out n x fits)))
          (IsPermutation-trans _ _ _ moved.entries (after_front (take n out) _ _ gone.others));
      rest = drop-set-lt (n + 1) out n x (omega arith) ∙ drop_later out start n (n + 1) (omega arith) moved.rest;
    }

    pub still_moved : Removed 0 now' None next → Moved before start n next out
    still_moved gone = record {
      entries = subst (λ l. IsPermutation (held before) (take n out ++ l)) (sym gone.others.entries) moved.entries;
      rest = moved.rest;
    }

-- what one call keeps and the next keeps, both keep
pub kept_on : {X : Type 0} {g : Ghosts X} (before now' next : Heap X g) (m n : ℕ) → m ≤ n → Kept n before now' → Kept m now' next → Kept n before next
kept_on before now' next m n le was more = record {
  named = more.named ∙ was.named;
  same_room = more.same_room ∙ was.same_room;
  beyond = drop_later _ _ m n le more.beyond ∙ was.beyond;
  heaped = λ h. more.heaped (was.heaped h);
}

module _ {X K : Type 0} (key : X → K) (upto : X → X → Bool) where
  pub none_gone : (xs : List X) → Heaped upto xs → InOrder key upto xs [] xs
  none_gone xs h = record { ascending = tt; ahead = tt; heaped = h; in_turn = refl }

  pub one_gone : (before gone xs ys : List X) (x : X) → InOrder key upto before gone xs → IsPermutation xs (x ∷ ys) → Leaves key upto xs (Some x) ys → InOrder key upto before (gone ++ x ∷ []) ys
  one_gone before gone xs ys x o w leave = record {
    ascending = ascending_push upto gone x o.ascending (All-weaker (λ y. Least upto y xs) (λ y. upto y x ≡ true) (λ y h. (all_shuffled (λ z. upto y z ≡ true) xs (x ∷ ys) w h).0) gone o.ahead);
    ahead = All-push (λ y. Least upto y ys) gone x
        (All-weaker (λ y. Least upto y xs) (λ y. Least upto y ys) (λ y h. (all_shuffled (λ z. upto y z ≡ true) xs (x ∷ ys) w h).1) gone o.ahead)
        (all_shuffled (λ z. upto x z ≡ true) xs (x ∷ ys) w leave.least).1;
    heaped = leave.heaped;
    in_turn = o.in_turn ∙ ap (λ ks. map key gone ++ ks) leave.in_turn ∙ one_more (map key gone) (keys_in_order key upto ys) (key x) ∙ ap (λ ks. ks ++ keys_in_order key upto ys) (sym (map-append key gone (x ∷ [])));
  }
