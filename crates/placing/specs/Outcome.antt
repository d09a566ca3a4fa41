-- What placing makes of the records, and what it answers.
use Rattle.std.specs.Prelude.{ℕ, Bool, cond, List, ◌++◌, take, drop, Some, None, Ok, Err, Option, Result, nat_lt}
use Rattle.fault.specs.declared.Cause.TheVariants.{ScratchShort, NoBoardFits}
use Rattle.fault.specs.declared.Fault.{Fault}
use Rattle.fault.specs.declared.Layer.TheVariants.{Call}
use Rattle.fault.specs.Faults.{fault, then}
use Rattle.duty.specs.declared.records.Record.{Record}
use Rattle.duty.specs.declared.timings.Timing.{Timing}
use Rattle.duty.specs.Heads.{Head}
use Rattle.columns.specs.Checks.{line_of, records_fault}
use Rattle.placing.specs.FirstFit.{cleared, placed}
use Rattle.placing.specs.Order.{lined, taken}

-- what is refused before a record changes: the records themselves, and then a scratch with fewer entries than duties
abbrev pub place_fault : Head → List Record → ℕ → Result (Unit {0}) Fault
place_fault h rs room =
    then (records_fault h rs) (λ _. cond (nat_lt room h.duties) (Err (fault ScratchShort 0 0 Call)) (Ok tt))

-- the answer, by the index of the duty that fits no board
abbrev pub placed_answer : Option ℕ → Result (Unit {0}) Fault
placed_answer None = Ok tt
placed_answer (Some i) = Err (fault NoBoardFits (line_of i) 1 Call)

-- the header's records placed by first-fit
abbrev pub first_fit : (List Timing → ℕ → Bool) → ℕ → ℕ → List Record → List Record × Option ℕ
first_fit passes boards cycle rs = placed passes boards cycle (cleared rs) (taken (lined 0 (cleared rs)))

-- the answer of place
abbrev pub place_answer : (List Timing → ℕ → Bool) → Head → List Record → ℕ → Result (Unit {0}) Fault
place_answer passes h rs room =
    then (place_fault h rs room) (λ _. placed_answer (first_fit passes h.boards h.cycle (take h.duties rs)).1)

-- what the records hold then, by what was refused beforehand
abbrev pub placed_by : Result (Unit {0}) Fault → (List Timing → ℕ → Bool) → Head → List Record → List Record
placed_by (Ok _) passes h rs = (first_fit passes h.boards h.cycle (take h.duties rs)).0 ++ drop h.duties rs
placed_by (Err f) passes h rs = rs

-- what the records hold after place
abbrev pub place_after : (List Timing → ℕ → Bool) → Head → List Record → ℕ → List Record
place_after passes h rs room = placed_by (place_fault h rs room) passes h rs
