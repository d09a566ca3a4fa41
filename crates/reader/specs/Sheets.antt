-- What the readers of whole texts answer.
use Rattle.std.specs.Prelude.{◌≡◌, ℕ, List, length, take, drop, Ok, Err, Result}
use Rattle.fault.specs.declared.Fault.{Fault}
use Rattle.fault.specs.Faults.{then}
use Rattle.duty.specs.declared.records.Record.{Record}
use Rattle.duty.specs.Heads.{Head}
use Rattle.columns.specs.declared.forms.Form.{Form}
use Rattle.columns.specs.Laws.{ReadsAs}
use Rattle.columns.specs.Lines.{duty_row}
use Rattle.columns.specs.Tables.{record_of, Sheet}

-- the record of a duty's line
abbrev pub line_record : Form → ℕ → ℕ → ℕ → List ℕ → Result Record Fault
line_record form cycle place line bs = then (duty_row form cycle place line bs) (λ r. Ok (record_of r))

-- the records read, where they are not refused
abbrev pub answered : Result (Unit {0}) Fault → List Record → Result (List Record) Fault
answered (Ok _) rs = Ok rs
answered (Err f) rs = Err f

-- what a reader of whole texts did, in terms of texts and sheets alone
pub record Read (form : Form) (bs : List ℕ) (old new : List Record) (r : Result Head Fault) : Type 0 where
  -- an accepted text is the text of the header answered and the records stored, and those are within all limits
  pub only : (h : Head) → r ≡ Ok h → ReadsAs form (length old) bs (record { head = h; rows = take h.duties new })
  -- a text of a sheet within all limits, with room for its records, is accepted, and read as that sheet
  pub back : (t : Sheet) → ReadsAs form (length old) bs t → (r ≡ Ok t.head) × (take t.head.duties new ≡ t.rows)
  -- the records past those read are as before, and all of them where the text is refused
  pub past : (h : Head) → r ≡ Ok h → drop h.duties new ≡ drop h.duties old
  pub kept : (f : Fault) → r ≡ Err f → new ≡ old
