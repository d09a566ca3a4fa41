-- What a heap queue means.
use Rattle.std.specs.Prelude.{ℕ, List, length, take, vec_items, Option}
use Rattle.heap_queue.specs.declared.heap_queue.HeapQueue.{HeapQueue}
use Rattle.heap_queue.specs.declared.timed.Timed.{Timed}
use Rattle.heap_queue.specs.Entries.{row}

-- the entries in the heap
abbrev pub entries : HeapQueue → List Timed
entries q = take q.len (vec_items q.memory)

-- what each place has
abbrev pub held_by : HeapQueue → List (Option ℕ)
held_by q = row (entries q)

-- how many entries its memory has
abbrev pub room : HeapQueue → ℕ
room q = length (vec_items q.memory)
