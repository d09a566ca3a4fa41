-- What the call does, in terms of the table that the text means and of its placing.
use Rattle.std.specs.Prelude.{◌≡◌, ℕ, ◌≤◌, List, ◌++◌, length, drop, Some, None, Ok, Err, Option, Result}
use Rattle.fault.specs.declared.Cause.TheVariants.{NoBoardFits}
use Rattle.fault.specs.declared.Fault.{Fault}
use Rattle.fault.specs.declared.Layer.TheVariants.{Call}
use Rattle.fault.specs.Faults.{fault}
use Rattle.duty.specs.declared.records.Record.{Record}
use Rattle.columns.specs.declared.forms.Form.TheVariants.{Table, Plan}
use Rattle.columns.specs.Checks.{line_of}
use Rattle.columns.specs.Laws.{ReadsAs}
use Rattle.columns.specs.Tables.{Sheet, sheet_of}
use Rattle.columns.specs.Texts.{text, text_length}
use Rattle.gauge.specs.Letters.{letter_passed}
use Rattle.placing.specs.Laws.{FirstFit, WithinTime}
use Rattle.planner.specs.Checks.{check_fault}

-- the sheet of a table whose records are these now
abbrev pub with_rows : Sheet → List Record → Sheet
with_rows t rs = record { head = t.head; rows = rs }

-- a plan whose text reads back as it is, and can be closed under its header's gauge
pub record Good (p : Sheet) : Type 0 where
  pub reads_back : (room : ℕ) → p.head.duties ≤ room → sheet_of Plan room (text Plan p) ≡ Ok p
  pub closes : (old : List Record) → p.head.duties ≤ length old → check_fault (text Plan p) old ≡ Ok tt

-- the answer, and the output after: the plan's text where all duties were placed, and else the refusal of the one that fits no board
abbrev pub PutOut : Option ℕ → List ℕ → List ℕ → Result ℕ Fault → List ℕ → Type 0
PutOut None plan out r after = (r ≡ Ok (length plan)) × (after ≡ plan ++ drop (length plan) out)
PutOut (Some i) plan out r after = (r ≡ Err (fault NoBoardFits (line_of i) 1 Call)) × (after ≡ out)

-- the table was placed by first-fit under its header's gauge, and its plan put out
pub record Planned (t : Sheet) (out : List ℕ) (r : Result ℕ Fault) (after : List ℕ) : Type 0 where
  pub rows : List Record
  pub unplaced : Option ℕ
  pub placing : FirstFit (letter_passed t.head.letter) t.head.boards t.head.cycle t.rows rows unplaced
  -- whether or not all were placed, no board is asked for more than it can give
  pub within_time : WithinTime t.head.boards rows
  pub put_out : PutOut unplaced (text Plan (with_rows t rows)) out r after
  -- what was put out is good
  pub good : unplaced ≡ None → Good (with_rows t rows)

pub record Plans (bs : List ℕ) (old : List Record) (scratch : ℕ) (out : List ℕ) (r : Result ℕ Fault) (after : List ℕ) : Type 0 where
  -- a text that is refused by reading is refused so, and the output is as it was
  pub unread : (f : Fault) → sheet_of Table (length old) bs ≡ Err f → (r ≡ Err f) × (after ≡ out)
  -- the text of a table within all limits is planned, where there is room for its records, for placing and for the plan
  pub table : (t : Sheet) → ReadsAs Table (length old) bs t → t.head.duties ≤ scratch → text_length Plan t.head.duties ≤ length out → Planned t out r after
