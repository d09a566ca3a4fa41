-- From a table's text to its plan's text.
use Rattle.std.specs.Prelude.{◌≡◌, ℕ, List, length, Ok, Err, Result}
use Rattle.fault.specs.declared.Fault.{Fault}
use Rattle.fault.specs.Faults.{then}
use Rattle.duty.specs.declared.records.Record.{Record}
use Rattle.columns.specs.declared.forms.Form.TheVariants.{Table, Plan}
use Rattle.columns.specs.Tables.{Sheet, sheet_of, filled}
use Rattle.gauge.specs.Letters.{letter_passed}
use Rattle.placing.specs.declared.lined.Lined.{Lined}
use Rattle.placing.specs.Outcome.{place_answer, place_after}
use Rattle.placing.specs.Scratch.{Past}
use Rattle.writer.specs.Written.{write_of}

-- what a table that was read is placed as, under its header's gauge, in records that held `old`
abbrev pub placed_records : Sheet → List Record → ℕ → List Record
placed_records t old scratch = place_after (letter_passed t.head.letter) t.head (filled (Ok t) old) scratch

-- the plan's text: the table is read, placed, and written
abbrev pub plan_text : List ℕ → List Record → ℕ → ℕ → Result (List ℕ) Fault
plan_text bs old scratch room =
    then (sheet_of Table (length old) bs) (λ t. then (place_answer (letter_passed t.head.letter) t.head (filled (Ok t) old) scratch) (λ _. write_of Plan t.head (placed_records t old scratch) room))

-- what the records hold, by what was read
abbrev pub records_by : Result Sheet Fault → List Record → ℕ → List Record
records_by (Ok t) old scratch = placed_records t old scratch
records_by (Err f) old scratch = old

-- what the records hold then
abbrev pub plan_records : List ℕ → List Record → ℕ → List Record
plan_records bs old scratch = records_by (sheet_of Table (length old) bs) old scratch

-- the scratch past as many entries as there are duties is as before, and all of it where no table was read
abbrev pub ScratchKept : Result Sheet Fault → List Lined → List Lined → Type 0
ScratchKept (Ok t) before after = Past t.head.duties before after
ScratchKept (Err f) before after = after ≡ before
