-- What a write gives: the text, or a refusal that changes nothing.
use Rattle.std.specs.Prelude.{◌≡◌, ℕ, ◌≤◌, cond, List, ◌++◌, map, length, take, drop, Ok, Err, Result, nat_lt}
use Rattle.fault.specs.declared.Cause.TheVariants.{OutputShort}
use Rattle.fault.specs.declared.Fault.{Fault}
use Rattle.fault.specs.declared.Layer.TheVariants.{Call}
use Rattle.fault.specs.Faults.{fault, then}
use Rattle.duty.specs.declared.records.Record.{Record}
use Rattle.duty.specs.Heads.{Head}
use Rattle.columns.specs.declared.forms.Form.{Form}
use Rattle.columns.specs.declared.forms.Form.TheVariants.{Table, Plan}
use Rattle.columns.specs.Checks.{records_fault}
use Rattle.columns.specs.Tables.{Sheet, sheet_of}
use Rattle.columns.specs.Texts.{text, text_length}

-- the sheet of a header and records
abbrev pub whole : Head → List Record → Sheet
whole h rs = record { head = h; rows = rs }

-- the sheet of a header and of as many records as it has duties; records past them are not looked at
abbrev pub sheet : Head → List Record → Sheet
sheet h rs = whole h (take h.duties rs)

-- the text of the sheet: first the records are checked, and then the room for it
abbrev pub write_of : Form → Head → List Record → ℕ → Result (List ℕ) Fault
write_of form h rs room =
    then (records_fault h rs) (λ _. cond (nat_lt room (text_length form h.duties)) (Err (fault OutputShort 0 0 Call)) (Ok (text form (sheet h rs))))

-- the length that a write answers
abbrev pub length_in : Result (List ℕ) Fault → Result ℕ Fault
length_in (Ok bs) = Ok (length bs)
length_in (Err f) = Err f

-- what the output holds after a write: the text, and past it what it held; where it is refused, what it held
abbrev pub out_in : Result (List ℕ) Fault → List ℕ → List ℕ
out_in (Ok bs) out = bs ++ drop (length bs) out
out_in (Err f) out = out

-- what a line holds of a record: a table line has no board
abbrev pub shown : Form → Record → Record
shown Table r = record { name = r.name; timing = r.timing; board = 0 }
shown Plan r = r

-- these bytes are read as the header and its records, as far as a line of the form holds them
abbrev pub ReadsBack : Form → Head → List Record → List ℕ → Type 0
ReadsBack form h rs bs =
    (room : ℕ) → h.duties ≤ room → sheet_of form room bs ≡ Ok (whole h (map (shown form) (take h.duties rs)))
