-- First-fit: the boards are tried from 1 up, and the first that still passes with the duty on it takes the duty.
use Rattle.std.specs.Prelude.{ℕ, zero, suc, ◌+◌, Bool, cond, List, [], ◌∷◌, map, Some, None, Option, ◌==◌, slice_index_or, slice_set}
use Rattle.duty.specs.declared.records.Record.{Record}
use Rattle.duty.specs.declared.timings.Timing.{Timing}
use Rattle.boards.specs.Lists.{on_board, no_record}

-- a record with another board
abbrev pub moved_to : Record → ℕ → Record
moved_to r b = record { name = r.name; timing = r.timing; board = b }

-- records of which the one at i is on board b
abbrev pub seat : List Record → ℕ → ℕ → List Record
seat rs i b = slice_set rs i (moved_to (slice_index_or rs i no_record) b)

-- the lowest of the k numbers from b on that passes the test, or 0
abbrev pub lowest : (ℕ → Bool) → ℕ → ℕ → ℕ
lowest test b zero = 0
lowest test b (suc k) = cond (test b) b (lowest test (b + 1) k)

-- whether board b takes the record at i: its list, with the record added, passes
abbrev pub takes : (List Timing → ℕ → Bool) → ℕ → List Record → ℕ → ℕ → Bool
takes passes cycle rs i b = passes (on_board b (seat rs i b)) cycle

-- the board for the record at i, or 0 where none takes it
abbrev pub fit : (List Timing → ℕ → Bool) → ℕ → ℕ → List Record → ℕ → ℕ
fit passes boards cycle rs i = lowest (takes passes cycle rs i) 1 boards

-- the records after those at these indices were placed in turn, and the index of the first that fits no board
abbrev pub placed : (List Timing → ℕ → Bool) → ℕ → ℕ → List Record → List ℕ → List Record × Option ℕ
placed passes boards cycle rs [] = (rs, None)
placed passes boards cycle rs (i ∷ is) =
    cond (fit passes boards cycle rs i == 0)
    (seat rs i 0, Some i)
    (placed passes boards cycle (seat rs i (fit passes boards cycle rs i)) is)

-- records with no board
abbrev pub cleared : List Record → List Record
cleared rs = map (λ r. moved_to r 0) rs
