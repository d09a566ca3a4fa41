-- A whole text is read just where it is the one text of a table or plan within all limits.
use Rattle.std.proofs.Common.{◌≡◌, ℕ, zero, suc, ◌+◌, ◌*◌, ◌≤◌, ltb, List, [], ◌∷◌, ◌++◌, length, drop, Ok, sym, refl, ap, ◌∙◌, subst, mul-suc, arith, length-append}
use Rattle.std.specs.List.{flat_map, AllByRecursion}
use Rattle.std.proofs.lemmas.List.{nil_from_length, drop_at, take-append-drop}
use Rattle.std.proofs.lemmas.Bool.{cond-false, ltb-false, le-ltb}
use Rattle.fault.proofs.Steps.{then_ok, then_back, passed_unless}
use Rattle.duty.specs.declared.records.Record.{Record}
use Rattle.columns.specs.declared.forms.Form.{Form}
use Rattle.columns.specs.Forms.{line_width}
use Rattle.columns.specs.Laws.{ReadsAs, OneText}
use Rattle.columns.specs.Lines.{header_line, duty_row}
use Rattle.columns.specs.Tables.{record_of, records_of, Sheet, sheet_of}
use Rattle.columns.specs.Texts.{header_text, line_text, text, text_length, Writable, Valid}
use Rattle.columns.proofs.LineTrips.{header_only, header_back, length_header, duty_only, duty_back, length_duty}

-- what accepted lines are
record LinesTold (form : Form) (n cycle : ℕ) (bs : List ℕ) (xs : List Record) : Type 0 where
  written : bs ≡ flat_map (line_text form) xs
  count : length xs ≡ n
  good : AllByRecursion (Writable form cycle) xs

lines_only : (form : Form) (n cycle place line : ℕ) (bs : List ℕ) (xs : List Record) → records_of form n cycle place line bs ≡ Ok xs → LinesTold form n cycle bs xs
lines_only form zero cycle place line bs xs e =
    let p = passed_unless (ltb 0 (length bs)) (Ok []) _ xs e in
    let none : [] ≡ xs = let f = p.1 in cc in
    let P : List Record → Type 0 = LinesTold form 0 cycle bs in
    subst P none (record { written = nil_from_length bs (omega (arith, ltb-false 0 (length bs) p.0)); count = refl; good = tt })
lines_only form (suc n) cycle place line bs xs e =
    let w = line_width form + 1 in
    then_back (duty_row form cycle place line bs) _ xs e (λ r e1 f1.
    then_back (records_of form n cycle (place + w) (line + 1) (drop w bs)) _ xs f1 (λ ys e2 f2.
    let all : record_of r ∷ ys ≡ xs = cc in
    let one = duty_only form cycle place line bs r e1 in
    let more = lines_only form n cycle (place + w) (line + 1) (drop w bs) ys e2 in
    let P : List Record → Type 0 = LinesTold form (suc n) cycle bs in
    subst P all (record {
      written = sym (take-append-drop w bs) ∙ (λ i. one.written i ++ more.written i);
      count = ap suc more.count;
      good = (one.good, more.good);
    })))

lines_back : (form : Form) (cycle place line : ℕ) (xs : List Record) → AllByRecursion (Writable form cycle) xs → records_of form (length xs) cycle place line (flat_map (line_text form) xs) ≡ Ok xs
lines_back form cycle place line [] g = refl
lines_back form cycle place line (x ∷ xs) g =
    let w = line_width form + 1 in
    let rest = flat_map (line_text form) xs in
    let past : drop w (line_text form x ++ rest) ≡ rest = drop_at (line_text form x) rest w (length_duty form cycle x g.0) in
    then_ok _ (duty_back form cycle place line x rest g.0)
    ∙ then_ok _ (ap (records_of form (length xs) cycle (place + w) (line + 1)) past ∙ lines_back form cycle (place + w) (line + 1) xs g.1)

-- how long the lines of records are
pub length_lines : (form : Form) (cycle : ℕ) (xs : List Record) → AllByRecursion (Writable form cycle) xs → length (flat_map (line_text form) xs) ≡ (line_width form + 1) * length xs
length_lines form cycle [] g = omega arith
length_lines form cycle (x ∷ xs) g =
    length-append (line_text form x) (flat_map (line_text form) xs)
    ∙ omega (arith, length_duty form cycle x g.0, length_lines form cycle xs g.1, mul-suc (line_width form + 1) (length xs))

-- how long a text is
pub length_text : (form : Form) (t : Sheet) → Valid form t → length (text form t) ≡ text_length form t.head.duties
length_text form t v =
    length-append (header_text form t.head) (flat_map (line_text form) t.rows)
    ∙ omega (arith, length_header form t.head v.limits, length_lines form t.head.cycle t.rows v.rows, ap (λ (n : ℕ). (line_width form + 1) * n) v.count)

text_only : (form : Form) (room : ℕ) (bs : List ℕ) (t : Sheet) → sheet_of form room bs ≡ Ok t → ReadsAs form room bs t
text_only form room bs t e =
    then_back (header_line form 1 bs) _ t e (λ h e1 f1.
    let p = passed_unless (ltb room h.duties) _ _ t f1 in
    then_back (records_of form h.duties h.cycle 21 2 (drop 21 bs)) _ t p.1 (λ rs e2 f2.
    let is : record { head = h; rows = rs } ≡ t = cc in
    let one = header_only form 1 bs h e1 in
    let more = lines_only form h.duties h.cycle 21 2 (drop 21 bs) rs e2 in
    let P : Sheet → Type 0 = ReadsAs form room bs in
    subst P is (record {
      valid = record { limits = one.1; count = more.count; rows = more.good };
      written = sym (take-append-drop 21 bs) ∙ (λ i. one.0 i ++ more.written i);
      room_for = ltb-false room h.duties p.0;
    })))

text_back : (form : Form) (room : ℕ) (t : Sheet) → Valid form t → t.head.duties ≤ room → sheet_of form room (text form t) ≡ Ok t
text_back form room t v fits =
    let h = t.head in
    let rest = flat_map (line_text form) t.rows in
    let past : drop 21 (header_text form h ++ rest) ≡ rest = drop_at (header_text form h) rest 21 (length_header form h v.limits) in
    let rows : records_of form h.duties h.cycle 21 2 (drop 21 (text form t)) ≡ Ok t.rows =
    ap (records_of form h.duties h.cycle 21 2) past
    ∙ ap (λ (n : ℕ). records_of form n h.cycle 21 2 rest) (sym v.count)
    ∙ lines_back form h.cycle 21 2 t.rows v.rows in
    then_ok _ (header_back form 1 h rest v.limits) ∙ cond-false _ _ _ (le-ltb room h.duties fits) ∙ then_ok _ rows

pub one_text : OneText
one_text = record {
  only = text_only;
  back = λ form room bs t r. ap (sheet_of form room) r.written ∙ text_back form room t r.valid r.room_for;
}
