-- From the case of a duty's line to its record.
use Rattle.std.proofs.Common.{◌≡◌, ℕ, Ok, Err, Result, sym, ap, arith}
use Rattle.fault.specs.declared.Fault.{Fault}
use Rattle.fault.specs.Faults.{then}
use Rattle.fault.proofs.Steps.{never}
use Rattle.duty.specs.Heads.{Head}
use Rattle.columns.specs.declared.forms.Form.{Form}
use Rattle.columns.specs.Lines.{Row}
use Rattle.columns.specs.Tables.{record_of}
use Rattle.reader.specs.Cases.{Case, header_case, duty_case}

pub case_record : (m : Result Row Fault) (form f : Form) (x : Case) (row : Row) → x ≡ duty_case f row → Ok x ≡ then m (λ r. Ok (duty_case form r)) → Ok (record_of row) ≡ then m (λ r. Ok (record_of r))
case_record (Ok r) form f x row e h = let q : row ≡ r = cc in ap (λ y. Ok (record_of y)) q
case_record (Err g) form f x row e h = absurd (never (sym h))

pub case_refused : (m : Result Row Fault) (form : Form) (g : Fault) → Err g ≡ then m (λ r. Ok (duty_case form r)) → Err g ≡ then m (λ r. Ok (record_of r))
case_refused (Ok r) form g h = absurd (never h)
case_refused (Err f) form g h = let q : g ≡ f = cc in ap Err q

pub no_header : (m : Result Row Fault) (form : Form) (x : Case) (h : Head) → x ≡ header_case h → Ok x ≡ then m (λ r. Ok (duty_case form r)) → ⊥
no_header (Ok r) form x h e k = let z : ◌≡◌ {A = ℕ} 0 1 = cc in omega arith
no_header (Err g) form x h e k = never (sym k)
