-- What was written reads back.
use Rattle.std.proofs.Common.{◌≡◌, ℕ, true, List, [], ◌∷◌, ◌++◌, length, map, take, Ok, sym, refl, ap, ◌∙◌, arith}
use Rattle.std.specs.List.{flat_map, AllByRecursion}
use Rattle.std.proofs.lemmas.List.{length-map}
use Rattle.std.proofs.lemmas.Bool.Decides.{nat_tests}
use Rattle.duty.specs.declared.records.Record.{Record}
use Rattle.duty.specs.Heads.{Head, head_limits}
use Rattle.duty.specs.Records.{in_cycle}
use Rattle.columns.specs.declared.forms.Form.{Form}
use Rattle.columns.specs.declared.forms.Form.TheVariants.{Table, Plan}
use Rattle.columns.specs.Checks.{records_fault}
use Rattle.columns.specs.Texts.{text, text_length, header_text, line_text, Writable, Valid}
use Rattle.columns.proofs.SheetTrips.{one_text, length_text}
use Rattle.writer.specs.Puts.{Sized}
use Rattle.writer.specs.Written.{whole, sheet, shown, ReadsBack}
use Rattle.writer.proofs.Accepted.{length_rows, all_duties}

-- what a line holds of a duty record is one that a line can hold
writable : (form : Form) (cycle : ℕ) (r : Record) → in_cycle cycle r ≡ true → Sized r → Writable form cycle (shown form r)
writable Table cycle r duty sized = record { sized = sized; duty = grind (arith, nat_tests); placeless = refl }
writable Plan cycle r duty sized = record { sized = sized; duty = duty; placeless = tt }

all_writable : (form : Form) (cycle : ℕ) (rs : List Record) → AllByRecursion (λ r. in_cycle cycle r ≡ true) rs → AllByRecursion Sized rs → AllByRecursion (Writable form cycle) (map (shown form) rs)
all_writable form cycle [] duties sized = tt
all_writable form cycle (r ∷ rs) duties sized =
    (writable form cycle r duties.0 sized.0, all_writable form cycle rs duties.1 sized.1)

-- and it has the same line
lines_shown : (form : Form) (rs : List Record) → flat_map (line_text form) (map (shown form) rs) ≡ flat_map (line_text form) rs
lines_shown form [] = refl
lines_shown Table (r ∷ rs) = ap (λ (l : List ℕ). line_text Table r ++ l) (lines_shown Table rs)
lines_shown Plan (r ∷ rs) = ap (λ (l : List ℕ). line_text Plan r ++ l) (lines_shown Plan rs)

module _ (form : Form) (h : Head) (rs : List Record) (limits : head_limits h ≡ true) (ok : records_fault h rs ≡ Ok tt) (sized : AllByRecursion Sized (take h.duties rs)) where
  valid : Valid form (whole h (map (shown form) (take h.duties rs)))
  valid = record {
    limits = limits;
    count = length-map (take h.duties rs) (shown form) ∙ length_rows h rs ok;
    rows = all_writable form h.cycle (take h.duties rs) (all_duties h rs ok) sized;
  }

  same_text : text form (whole h (map (shown form) (take h.duties rs))) ≡ text form (sheet h rs)
  same_text = ap (λ (l : List ℕ). header_text form h ++ l) (lines_shown form (take h.duties rs))

  pub length_whole : length (text form (sheet h rs)) ≡ text_length form h.duties
  length_whole = ap length (sym same_text) ∙ length_text form _ valid

  pub text_back : (bs : List ℕ) → bs ≡ text form (sheet h rs) → ReadsBack form h rs bs
  text_back bs e = λ room enough. one_text.back form room bs _ (record { valid = valid; written = e ∙ sym same_text; room_for = enough })
