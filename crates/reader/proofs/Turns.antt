-- The loop over the lines of a text, and the text as its header and its lines.
use Rattle.std.proofs.Common.{◌≡◌, ℕ, zero, suc, ◌+◌, ◌-◌, ◌<◌, ◌≤◌, List, [], ◌∷◌, ◌++◌, length, take, drop, set, Ok, Err, Result, sym, refl, ap, ◌∙◌, append_assoc, append-nil, arith}
use Rattle.std.proofs.lemmas.List.{take_more_set, drop-drop}
use Rattle.std.proofs.lemmas.Bool.{cond-true, cond-false, lt-ltb, le-ltb}
use Rattle.fault.specs.declared.Cause.TheVariants.{TrailingBytes}
use Rattle.fault.specs.declared.Fault.{Fault}
use Rattle.fault.specs.declared.Layer.TheVariants as layer
use Rattle.fault.specs.Faults.{fault, then}
use Rattle.fault.proofs.Steps.{then_ok, never}
use Rattle.duty.specs.declared.records.Record.{Record}
use Rattle.duty.specs.Heads.{Head}
use Rattle.columns.specs.declared.forms.Form.{Form}
use Rattle.columns.specs.Forms.{line_width}
use Rattle.columns.specs.Lines.{Row, header_line, duty_row}
use Rattle.columns.specs.Tables.{record_of, records_of, sheet_of}
use Rattle.reader.specs.Sheets.{line_record}

-- what is read already, before what is left to read
abbrev pub before : List Record → Result (List Record) Fault → Result (List Record) Fault
before xs (Ok ys) = Ok (xs ++ ys)
before xs (Err f) = Err f

before_cons : (xs : List Record) (x : Record) (m : Result (List Record) Fault) → before (xs ++ x ∷ []) m ≡ before xs (then m (λ rs. Ok (x ∷ rs)))
before_cons xs x (Ok ys) = ap Ok (append_assoc xs (x ∷ []) ys)
before_cons xs x (Err f) = refl

-- a line's record, before the records of the lines after it
row_first : (m : Result Row Fault) (x : Record) (k : Result (List Record) Fault) → Ok x ≡ then m (λ r. Ok (record_of r)) → then m (λ r. then k (λ rs. Ok (record_of r ∷ rs))) ≡ then k (λ rs. Ok (x ∷ rs))
row_first (Ok r) x k e = let q : record_of r ≡ x = cc in ap (λ (y : Record). then k (λ rs. Ok (y ∷ rs))) q
row_first (Err f) x k e = absurd (never (sym e))

row_refused : (m : Result Row Fault) (f : Fault) (k : Result (List Record) Fault) → Err f ≡ then m (λ r. Ok (record_of r)) → then m (λ r. then k (λ rs. Ok (record_of r ∷ rs))) ≡ Err f
row_refused (Ok r) f k e = absurd (never e)
row_refused (Err g) f k e = let q : g ≡ f = cc in ap Err q

module _ (form : Form) (cycle : ℕ) where
  refused_at : (k place line : ℕ) (bs : List ℕ) (xs : List Record) (f : Fault) → 0 < k → Err f ≡ line_record form cycle place line bs → before xs (records_of form k cycle place line bs) ≡ Err f
  refused_at zero place line bs xs f h e = absurd (omega arith)
  refused_at (suc k) place line bs xs f h e = ap (before xs) (row_refused (duty_row form cycle place line bs) f _ e)

  more_at : (k m place line : ℕ) (bs : List ℕ) (xs : List Record) (x : Record) → k ≡ suc m → Ok x ≡ line_record form cycle place line bs → before (xs ++ x ∷ []) (records_of form m cycle (place + (line_width form + 1)) (line + 1) (drop (line_width form + 1) bs)) ≡ before xs (records_of form k cycle place line bs)
  more_at k m place line bs xs x h e =
      before_cons xs x _
      ∙ ap (before xs) (sym (row_first (duty_row form cycle place line bs) x _ e))
      ∙ ap (λ (n : ℕ). before xs (records_of form n cycle place line bs)) (sym h)

  -- a turn that is refused
  pub turn_refused : (n i pos line : ℕ) (bs : List ℕ) (rows : List Record) (f : Fault) → i < n → Err f ≡ line_record form cycle pos line bs → before (take i rows) (records_of form (n - i) cycle pos line bs) ≡ Err f
  turn_refused n i pos line bs rows f h e = refused_at (n - i) pos line bs (take i rows) f (omega arith) e

  -- a turn that goes on
  pub turn : (n i pos line pos' line' : ℕ) (text text' : List ℕ) (rows : List Record) (x : Record) → i < n → i < length rows → Ok x ≡ line_record form cycle pos line (drop pos text) → text' ≡ text → pos' ≡ pos + (line_width form + 1) → line' ≡ line + 1 → before (take (i + 1) (set rows i x)) (records_of form (n - (i + 1)) cycle pos' line' (drop pos' text')) ≡ before (take i rows) (records_of form (n - i) cycle pos line (drop pos text))
  turn n i pos line pos' line' text text' rows x h k e t p l =
      let w = line_width form + 1 in
      let m = n - (i + 1) in
      let one : n - i ≡ suc m = omega arith in
      let front : take (i + 1) (set rows i x) ≡ take i rows ++ x ∷ [] = take_more_set rows i x k in
      let back : records_of form m cycle pos' line' (drop pos' text') ≡ records_of form m cycle (pos + w) (line + 1) (drop w (drop pos text)) =
      rw (t, p, l) (ap (records_of form m cycle (pos + w) (line + 1)) (sym (drop-drop w pos text))) in
      ap (λ (s : List Record). before s (records_of form m cycle pos' line' (drop pos' text'))) front
      ∙ ap (before (take i rows ++ x ∷ [])) back
      ∙ more_at (n - i) m pos line (drop pos text) (take i rows) x one e

  -- past the last line
  pub bytes_left : (place line : ℕ) (bs : List ℕ) (xs : List Record) → 0 < length bs → before xs (records_of form 0 cycle place line bs) ≡ Err (fault TrailingBytes line 1 layer.Table)
  bytes_left place line bs xs h = ap (before xs) (cond-true _ _ _ (lt-ltb 0 (length bs) h))

  pub none_left : (place line : ℕ) (bs : List ℕ) (xs : List Record) → length bs ≤ 0 → before xs (records_of form 0 cycle place line bs) ≡ Ok xs
  none_left place line bs xs h = ap (before xs) (cond-false _ _ _ (le-ltb 0 (length bs) h)) ∙ ap Ok (append-nil xs)

-- a whole text, as its header and its lines
whole : (form : Form) (room : ℕ) (text : List ℕ) (h : Head) (m : Result (List Record) Fault) → header_line form 1 text ≡ Ok h → h.duties ≤ room → records_of form h.duties h.cycle 21 2 (drop 21 text) ≡ m → sheet_of form room text ≡ then m (λ rs. Ok (record { head = h; rows = rs }))
whole form room text h m header fits lines =
    then_ok _ header ∙ cond-false _ _ _ (le-ltb room h.duties fits) ∙ ap (λ r. then r (λ rs. Ok (record { head = h; rows = rs }))) lines

-- as the cursor reads it: the header from the start, and the lines from past the header
pub sheet_then : (form : Form) (room : ℕ) (text : List ℕ) (h : Head) (p l : ℕ) → Ok h ≡ header_line form l (drop p text) → p ≡ 0 → l ≡ 1 → h.duties ≤ room → (m : Result (List Record) Fault) (n cycle p' l' : ℕ) (text' : List ℕ) → m ≡ records_of form n cycle p' l' (drop p' text') → n ≡ h.duties → cycle ≡ h.cycle → text' ≡ text → p' ≡ p + 21 → l' ≡ l + 1 → sheet_of form room text ≡ then m (λ rs. Ok (record { head = h; rows = rs }))
sheet_then form room text h p l e ep el fits m n cycle p' l' text' k en ec et ep' el' =
    let p21 : p' ≡ 21 = omega arith in
    let l2 : l' ≡ 2 = omega arith in
    whole form room text h m (sym (rw (ep, el) at e)) fits (sym (rw (en, ec, et, p21, l2) at k))
