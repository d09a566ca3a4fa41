-- The three steps in a row: from what each answers to what the whole answers.
use Rattle.std.proofs.Common.{◌≡◌, ℕ, List, length, IfOk, Ok, Err, Result, sym, refl, ap, ◌∙◌, subst}
use Rattle.fault.specs.declared.Fault.{Fault}
use Rattle.fault.specs.Faults.{then}
use Rattle.fault.proofs.Steps.{never, then_ok, then_err}
use Rattle.duty.specs.declared.records.Record.{Record}
use Rattle.duty.specs.Heads.{Head}
use Rattle.columns.specs.declared.forms.Form.TheVariants.{Table, Plan}
use Rattle.columns.specs.Tables.{Sheet, sheet_of, head_in, filled}
use Rattle.gauge.specs.Letters.{letter_passed}
use Rattle.placing.specs.declared.lined.Lined.{Lined}
use Rattle.placing.specs.Outcome.{place_answer, place_after}
use Rattle.placing.specs.Scratch.{Past}
use Rattle.writer.specs.Written.{write_of}
use Rattle.planner.specs.Plans.{plan_text, records_by, plan_records, ScratchKept}

-- placing, and then writing, once this header was read and the records hold this
abbrev placed_text : Head → List Record → ℕ → ℕ → Result (List ℕ) Fault
placed_text h rs scratch room =
    then (place_answer (letter_passed h.letter) h rs scratch) (λ _. write_of Plan h (place_after (letter_passed h.letter) h rs scratch) room)

-- a refused read
module _ (bs : List ℕ) (old : List Record) (scratch room : ℕ) (f : Fault) where
  by_refusal : (m : Result Sheet Fault) → sheet_of Table (length old) bs ≡ m → Err f ≡ head_in m → sheet_of Table (length old) bs ≡ Err f
  by_refusal (Ok t) e h = absurd (never h)
  by_refusal (Err g) e h = let q : g ≡ f = cc in e ∙ ap Err q

  module _ (h : Err f ≡ head_in (sheet_of Table (length old) bs)) where
    pub unread : sheet_of Table (length old) bs ≡ Err f
    unread = by_refusal (sheet_of Table (length old) bs) refl h

    pub unread_text : plan_text bs old scratch room ≡ Err f
    unread_text = then_err _ unread

    pub unread_scratch : (xs : List Lined) → ScratchKept (sheet_of Table (length old) bs) xs xs
    unread_scratch xs = subst (λ m. ScratchKept m xs xs) (sym unread) refl

    pub unread_records : plan_records bs old scratch ≡ old
    unread_records = ap (λ m. records_by m old scratch) unread

-- an accepted read
module _ (bs : List ℕ) (old rs : List Record) (scratch room : ℕ) (h : Head) where
  record Told : Type 0 where
    text : plan_text bs old scratch room ≡ placed_text h rs scratch room
    kept : (xs ys : List Lined) → Past h.duties xs ys → ScratchKept (sheet_of Table (length old) bs) xs ys
    records : plan_records bs old scratch ≡ place_after (letter_passed h.letter) h rs scratch

  by_sheet : (m : Result Sheet Fault) → sheet_of Table (length old) bs ≡ m → Ok h ≡ head_in m → rs ≡ filled m old → Told
  by_sheet (Err f) e a b = absurd (never (sym a))
  by_sheet (Ok t) e a b =
      let q : t.head ≡ h = cc in
      record {
        text = then_ok _ e ∙ (λ i. placed_text (q i) (sym b i) scratch room);
        kept = λ xs ys p. subst (λ m. ScratchKept m xs ys) (sym e) (subst (λ (x : Head). Past x.duties xs ys) (sym q) p);
        records = ap (λ m. records_by m old scratch) e ∙ (λ i. place_after (letter_passed (q i).letter) (q i) (sym b i) scratch);
      }

  module _ (a : Ok h ≡ head_in (sheet_of Table (length old) bs)) (b : rs ≡ filled (sheet_of Table (length old) bs) old) where
    told : Told
    told = by_sheet (sheet_of Table (length old) bs) refl a b

    pub read_records : plan_records bs old scratch ≡ place_after (letter_passed h.letter) h rs scratch
    read_records = told.records

    pub read_scratch : (xs ys : List Lined) → Past h.duties xs ys → ScratchKept (sheet_of Table (length old) bs) xs ys
    read_scratch = told.kept

    pub unplaced_text : (f : Fault) → Err f ≡ place_answer (letter_passed h.letter) h rs scratch → plan_text bs old scratch room ≡ Err f
    unplaced_text f e = told.text ∙ then_err _ (sym e)

    pub placed_text_is : Ok tt ≡ place_answer (letter_passed h.letter) h rs scratch → plan_text bs old scratch room ≡ write_of Plan h (place_after (letter_passed h.letter) h rs scratch) room
    placed_text_is e = told.text ∙ then_ok _ (sym e)

-- what is said of a good answer holds of a refusal
pub none_made : (r : Result ℕ Fault) (f : Fault) (P : ℕ → Type 0) → r ≡ Err f → IfOk r P
none_made r f P e = subst (λ x. IfOk x P) (sym e) tt
