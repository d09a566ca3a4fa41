-- What the calls that change a heap do to what it holds, and what they keep.
use Rattle.std.specs.Prelude.{◌≡◌, ℕ, cond, List, ◌∷◌, ◌++◌, length, take, drop, Option, Result, Ok, Err, OnOk, OnErr, MatchOption, nat_lt}
use Rattle.std.specs.List.{slice_get}
use Rattle.std.specs.List.Sorted.{IsPermutation}
use Rattle.heap.specs.declared.entry.Entry.{Ghosts}
use Rattle.heap.specs.declared.binary.Heap.{Heap}
use Rattle.heap.specs.Held.{memory, held, room}
use Rattle.heap.specs.Order.{Heaped}

-- a call that has changed nothing
pub record Unchanged {X : Type 0} {g : Ghosts X} (before after : Heap X g) : Type 0 where
  pub entries : held after ≡ held before
  pub slots : memory after ≡ memory before

-- x was offered: it is refused, and comes back, exactly where the memory is full, and else held beside the others
pub record Pushed {X : Type 0} {g : Ghosts X} (x : X) (before : Heap X g) (answer : Result (Unit {0}) X) (after : Heap X g) : Type 0 where
  pub fits : answer ≡ cond (nat_lt (length (held before)) (room before)) (Ok tt) (Err x)
  pub refused : OnErr answer (Unchanged before after)
  pub taken : OnOk answer (IsPermutation (x ∷ held before) (held after))

-- the entry at i was asked for: it is the answer and leaves, or there is none and nothing changes
pub record Removed {X : Type 0} {g : Ghosts X} (i : ℕ) (before : Heap X g) (answer : Option X) (after : Heap X g) : Type 0 where
  pub which : answer ≡ slice_get (held before) i
  pub others : MatchOption answer (Unchanged before after) (λ x. IsPermutation (held before) (x ∷ held after))

-- n entries have left, one after another, into the first slots of a list that was `start` and is `out`
pub record Moved {X : Type 0} {g : Ghosts X} (before : Heap X g) (start : List X) (n : ℕ) (after : Heap X g) (out : List X) : Type 0 where
  pub entries : IsPermutation (held before) (take n out ++ held after)
  pub rest : drop n out ≡ drop n start

-- what a call keeps: the lent slots, all from the n-th on as they were, and heap order, if it was there
pub record Kept {X : Type 0} {g : Ghosts X} (n : ℕ) (before after : Heap X g) : Type 0 where
  pub named : after.slots.ghost_name ≡ before.slots.ghost_name
  pub same_room : room after ≡ room before
  pub beyond : drop n (memory after) ≡ drop n (memory before)
  pub heaped : Heaped g.upto (held before) → Heaped g.upto (held after)
