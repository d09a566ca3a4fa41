-- The heap of records: how it is filled, and what each record off it does to the plan.
use Rattle.std.proofs.Common.{◌≡◌, ℕ, suc, ◌+◌, ◌-◌, ◌<◌, ◌≤◌, Bool, true, false, cond, eqb, List, [], ◌∷◌, ◌++◌, map, length, get_or, take, drop, Some, None, Ok, Err, Option, Result, sym, refl, ap, ◌∙◌, subst, arith, rules}
use Rattle.std.specs.List.Sorted.{IsPermutation}
use Rattle.std.specs.List.{AllByRecursion}
use Rattle.std.proofs.lemmas.List.{take_more, length-take-le, drop-drop}
use Rattle.std.proofs.lemmas.Bool.{eqb-true}
use Rattle.std.proofs.lemmas.List.Sorted.{length_permutation, IsPermutation-trans, IsPermutation-to_front, IsPermutation-cons}
use Rattle.std.proofs.ByRecursion.{all_shuffled}
use Rattle.fault.specs.declared.Fault.{Fault}
use Rattle.duty.specs.declared.records.Record.{Record}
use Rattle.duty.specs.declared.timings.Timing.{Timing}
use Rattle.heap.specs.declared.entry.Entry.{Ghosts}
use Rattle.heap.specs.declared.binary.Heap.{Heap}
use Rattle.heap.specs.Calls.{Kept}
use Rattle.heap.specs.Held.{memory}
use Rattle.heap.specs.Pairs.{pair_total, pair_chain, pair_level}
use Rattle.heap.specs.Sorted.{sorted, keys_in_order}
use Rattle.heap.proofs.Draining.{kept_on}
use Rattle.heap.proofs.Sorting.{keys_any_order}
use Rattle.placing.specs.declared.lined.Lined.{Lined}
use Rattle.placing.specs.FirstFit.{seat, fit, placed}
use Rattle.placing.specs.Order.{pair_of, sooner, lined_key, lined, taken}
use Rattle.placing.specs.Outcome.{placed_answer}
use Rattle.placing.specs.Scratch.{Past}

-- the order is total

pub total : (x y : Lined) → sooner x y ≡ false → sooner y x ≡ true
total x y = pair_total (pair_of x) (pair_of y)

pub chain : (x y z : Lined) → sooner x y ≡ true → sooner y z ≡ true → sooner x z ≡ true
chain x y z = pair_chain (pair_of x) (pair_of y) (pair_of z)

level : (x y : Lined) → sooner x y ≡ true → sooner y x ≡ true → lined_key x ≡ lined_key y
level x y = pair_level (pair_of x) (pair_of y)

-- indices by keys

abbrev index_of : List ℕ → ℕ
index_of k = get_or k 1 0

from_keys : (l : List Lined) → map index_of (map lined_key l) ≡ map (λ e. e.index) l
from_keys [] = refl
from_keys (e ∷ l) = ap (λ r. e.index ∷ r) (from_keys l)

pub taken_first : (xs ys : List Lined) (e : Lined) → keys_in_order lined_key sooner xs ≡ lined_key e ∷ keys_in_order lined_key sooner ys → taken xs ≡ e.index ∷ taken ys
taken_first xs ys e h =
    sym (from_keys (sorted sooner xs)) ∙ ap (map index_of) h ∙ ap (λ r. e.index ∷ r) (from_keys (sorted sooner ys))

pub taken_shuffled : (xs ys : List Lined) → IsPermutation xs ys → taken xs ≡ taken ys
taken_shuffled xs ys w =
    sym (from_keys (sorted sooner xs))
    ∙ ap (map index_of) (keys_any_order sooner total chain lined_key level xs ys w)
    ∙ from_keys (sorted sooner ys)

-- filling

abbrev pub at_index : Record → ℕ → Lined
at_index r i = record { «record» = r; index = i }

pub length_lined : (j : ℕ) (rs : List Record) → length (lined j rs) ≡ length rs
length_lined j [] = refl
length_lined j (r ∷ rs) = ap suc (length_lined (j + 1) rs)

lined_push : (j : ℕ) (xs : List Record) (r : Record) → lined j (xs ++ r ∷ []) ≡ lined j xs ++ at_index r (j + length xs) ∷ []
lined_push j [] r = let e : j ≡ j + 0 = omega arith in ap (λ (k : ℕ). at_index r k ∷ []) e
lined_push j (x ∷ xs) r =
    let e : j + 1 + length xs ≡ j + suc (length xs) = omega arith in
    ap (λ l. at_index x j ∷ l) (lined_push (j + 1) xs r ∙ ap (λ (k : ℕ). lined (j + 1) xs ++ at_index r k ∷ []) e)

lined_more : (rs : List Record) (i : ℕ) (d : Record) → i < length rs → lined 0 (take (i + 1) rs) ≡ lined 0 (take i rs) ++ at_index (get_or rs i d) i ∷ []
lined_more rs i d h =
    let e : 0 + length (take i rs) ≡ i = omega (arith, length-take-le i rs (omega arith)) in
    ap (lined 0) (take_more rs i d h) ∙ lined_push 0 (take i rs) (get_or rs i d) ∙ ap (λ (k : ℕ). lined 0 (take i rs) ++ at_index (get_or rs i d) k ∷ []) e

-- one record more in the heap
pub fills : (rs : List Record) (i : ℕ) (d : Record) (es fs : List Lined) → i < length rs → IsPermutation (lined 0 (take i rs)) es → IsPermutation (at_index (get_or rs i d) i ∷ es) fs → IsPermutation (lined 0 (take (i + 1) rs)) fs
fills rs i d es fs h was pushed =
    let x = at_index (get_or rs i d) i in
    let l = lined 0 (take i rs) in
    subst (λ r. IsPermutation r fs) (sym (lined_more rs i d h))
    (IsPermutation-trans _ _ fs (IsPermutation-to_front l x) (IsPermutation-trans _ _ fs (IsPermutation-cons x l es was) pushed))

pub filled_length : (rs : List Record) (i : ℕ) (es : List Lined) → i ≤ length rs → IsPermutation (lined 0 (take i rs)) es → length es ≡ i
filled_length rs i es h w = length_permutation _ es w ∙ length_lined 0 (take i rs) ∙ length-take-le i rs h

lined_below : (j n : ℕ) (rs : List Record) → j + length rs ≤ n → AllByRecursion (λ e. e.index < n) (lined j rs)
lined_below j n [] h = tt
lined_below j n (r ∷ rs) h = (omega arith, lined_below (j + 1) n rs (omega arith))

pub indices_below : (rs : List Record) (n : ℕ) (es : List Lined) → length rs ≡ n → IsPermutation (lined 0 rs) es → AllByRecursion (λ e. e.index < n) es
indices_below rs n es e w = all_shuffled (λ e. e.index < n) _ es w (lined_below 0 n rs (omega arith))

-- what the answer to one record says of whether it fits a board

placed_where : (t : Bool) (i : ℕ) {x : Unit {0}} → placed_answer (cond t (Some i) None) ≡ Ok x → t ≡ false
placed_where true i e = cc
placed_where false i e = refl

stuck_where : (t : Bool) (i : ℕ) {f : Fault} → placed_answer (cond t (Some i) None) ≡ Err f → t ≡ true
stuck_where true i e = refl
stuck_where false i e = cc

-- placing the next: what is left, placed over the records as they stand, gives the whole

module _ (passes : List Timing → ℕ → Bool) (boards cycle : ℕ) (rs : List Record) (es fs : List Lined) (e : Lined) (whole : List Record × Option ℕ) (leaves : keys_in_order lined_key sooner es ≡ lined_key e ∷ keys_in_order lined_key sooner fs) (left : placed passes boards cycle rs (taken es) ≡ whole) where
  first_of : placed passes boards cycle rs (e.index ∷ taken fs) ≡ whole
  first_of = ap (placed passes boards cycle rs) (sym (taken_first es fs e leaves)) ∙ left

  pub goes_on : (after : List Record) (answer : Result (Unit {0}) Fault) (x : Unit {0}) → answer ≡ placed_answer (cond (eqb (fit passes boards cycle rs e.index) 0) (Some e.index) None) → answer ≡ Ok x → after ≡ seat rs e.index (fit passes boards cycle rs e.index) → placed passes boards cycle after (taken fs) ≡ whole
  goes_on after answer x told ok is =
      let fits : eqb (fit passes boards cycle rs e.index) 0 ≡ false = placed_where _ e.index (sym told ∙ ok) in
      ap (λ xs. placed passes boards cycle xs (taken fs)) is
      ∙ sym (ap (λ t. cond t (seat rs e.index 0, Some e.index) (placed passes boards cycle (seat rs e.index (fit passes boards cycle rs e.index)) (taken fs))) fits)
      ∙ first_of

  pub stops : (after : List Record) (answer : Result (Unit {0}) Fault) (f : Fault) → answer ≡ placed_answer (cond (eqb (fit passes boards cycle rs e.index) 0) (Some e.index) None) → answer ≡ Err f → after ≡ seat rs e.index (fit passes boards cycle rs e.index) → (after ≡ whole.0) × (answer ≡ placed_answer whole.1)
  stops after answer f told bad is =
      let none : eqb (fit passes boards cycle rs e.index) 0 ≡ true = stuck_where _ e.index (sym told ∙ bad) in
      let end : (seat rs e.index 0, Some e.index) ≡ whole =
      sym (ap (λ t. cond t (seat rs e.index 0, Some e.index) (placed passes boards cycle (seat rs e.index (fit passes boards cycle rs e.index)) (taken fs))) none) ∙ first_of in (
        is ∙ ap (seat rs e.index) (eqb-true _ 0 none) ∙ ap (λ r. r.0) end,
        told ∙ ap (λ t. placed_answer (cond t (Some e.index) None)) none ∙ ap (λ r. placed_answer r.1) end,
      )

-- the memory past what was ever held

-- of a heap whose memory was xs but for the first n slots, after calls that kept the others
pub past_kept : {g : Ghosts Lined} (n k m : ℕ) (xs : List Lined) (first now' last : Heap Lined g) → k ≡ n → m ≤ n → Past k xs (memory first) → Kept n first now' → Kept m now' last → Past n xs (memory last)
past_kept n k m xs first now' last same le p was more =
    let kept = kept_on first now' last m n le was more in
    let start : Past n xs (memory first) = subst (λ (j : ℕ). Past j xs (memory first)) same p in
    record { long = kept.same_room ∙ start.long; rest = kept.beyond ∙ start.rest }

pub past_is : (n : ℕ) (xs ys zs : List Lined) → Past n xs ys → zs ≡ ys → Past n xs zs
past_is n xs ys zs p e = subst (λ l. Past n xs l) (sym e) p
