-- What a whole text is read as.
use Rattle.std.specs.Prelude.{ℕ, zero, suc, ◌+◌, cond, List, [], ◌∷◌, ◌++◌, length, drop, Ok, Err, Result, nat_lt}
use Rattle.fault.specs.declared.Cause.TheVariants.{RecordsShort, TrailingBytes}
use Rattle.fault.specs.declared.Fault.{Fault}
use Rattle.fault.specs.declared.Layer.TheVariants as layer
use Rattle.fault.specs.Faults.{fault, then}
use Rattle.duty.specs.declared.records.Record.{Record}
use Rattle.duty.specs.Heads.{Head}
use Rattle.columns.specs.declared.forms.Form.{Form}
use Rattle.columns.specs.Forms.{line_width}
use Rattle.columns.specs.Layout.{duties_field, header_width}
use Rattle.columns.specs.Lines.{Row, header_line, duty_row}

-- the record that a duty's line is stored as
abbrev pub record_of : Row → Record
record_of r = record { name = record { bytes = r.name.bytes }; timing = r.timing; board = r.board }

-- the records of n lines, and then no byte more
abbrev pub records_of : Form → ℕ → ℕ → ℕ → ℕ → List ℕ → Result (List Record) Fault
records_of form zero cycle place line bs =
    cond (nat_lt 0 (length bs)) (Err (fault TrailingBytes line 1 layer.Table)) (Ok [])
records_of form (suc n) cycle place line bs =
    then (duty_row form cycle place line bs) (λ r. then (records_of form n cycle (place + (line_width form + 1)) (line + 1) (drop (line_width form + 1) bs)) (λ rs. Ok (record_of r ∷ rs)))

-- a table or plan: its header and its records
pub record Sheet : Type 0 where
  pub head : Head
  pub rows : List Record

-- what a text is read as where there is room for so many records
abbrev pub sheet_of : Form → ℕ → List ℕ → Result Sheet Fault
sheet_of form room bs =
    then (header_line form 1 bs) (λ h. cond (nat_lt room h.duties) (Err (fault RecordsShort 1 duties_field.first layer.Table)) (then (records_of form h.duties h.cycle (header_width + 1) 2 (drop (header_width + 1) bs)) (λ rs. Ok (record { head = h; rows = rs }))))

-- the header that a read answers
abbrev pub head_in : Result Sheet Fault → Result Head Fault
head_in (Ok t) = Ok t.head
head_in (Err f) = Err f

-- what the records hold after a read: those read, and past them what they held; where it is refused, what they held
abbrev pub filled : Result Sheet Fault → List Record → List Record
filled (Ok t) old = t.rows ++ drop (length t.rows) old
filled (Err f) old = old
