-- Why a plan's text cannot be closed.
use Rattle.std.specs.Prelude.{◌≡◌, ℕ, List, length, Ok, Err, Result}
use Rattle.fault.specs.declared.Fault.{Fault}
use Rattle.fault.specs.Faults.{then}
use Rattle.duty.specs.declared.records.Record.{Record}
use Rattle.columns.specs.declared.forms.Form.TheVariants.{Plan}
use Rattle.columns.specs.Laws.{ReadsAs}
use Rattle.columns.specs.Tables.{Sheet, sheet_of, filled}
use Rattle.gauge.specs.Letters.{letter_passed}
use Rattle.plans.specs.Closing.{close_fault}
use Rattle.plans.specs.Laws.{Decides}

-- the fault of reading, or of closing under the header's gauge what was read into records that held `old`
abbrev pub check_fault : List ℕ → List Record → Result (Unit {0}) Fault
check_fault bs old =
    then (sheet_of Plan (length old) bs) (λ t. close_fault (letter_passed t.head.letter) t.head (filled (Ok t) old))

pub record Checks (bs : List ℕ) (old : List Record) (r : Result (Unit {0}) Fault) : Type 0 where
  -- a text that is refused by reading is refused so
  pub unread : (f : Fault) → sheet_of Plan (length old) bs ≡ Err f → r ≡ Err f
  -- the text of a plan within all limits is good just where the plan can be closed under its header's gauge
  pub plan : (t : Sheet) → ReadsAs Plan (length old) bs t → Decides (letter_passed t.head.letter) t.head (filled (Ok t) old) r
