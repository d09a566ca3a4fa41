-- What a heap holds, and where.
use Rattle.std.specs.Prelude.{ℕ, List, length, take}
use Rattle.heap.specs.declared.entry.Entry.{Ghosts}
use Rattle.heap.specs.declared.binary.Heap.{Heap}

-- the lent slots, as they stand now
abbrev pub memory : {X : Type 0} {g : Ghosts X} → Heap X g → List X
memory h = h.slots.now

-- how many entries there is room for
abbrev pub room : {X : Type 0} {g : Ghosts X} → Heap X g → ℕ
room h = length (memory h)

-- the entries held, which fill the first slots
abbrev pub held : {X : Type 0} {g : Ghosts X} → Heap X g → List X
held h = take h.len (memory h)
