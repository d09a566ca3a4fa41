-- What a reader of whole texts did, in terms of texts and sheets alone.
use Rattle.std.proofs.Common.{◌≡◌, ℕ, List, ◌++◌, length, take, drop, Ok, Err, Result, sym, refl, ap, ◌∙◌, subst}
use Rattle.std.proofs.lemmas.List.{take_at, drop_at}
use Rattle.fault.specs.declared.Fault.{Fault}
use Rattle.fault.proofs.Steps.{never}
use Rattle.duty.specs.declared.records.Record.{Record}
use Rattle.duty.specs.Heads.{Head}
use Rattle.columns.specs.declared.forms.Form.{Form}
use Rattle.columns.specs.Laws.{ReadsAs}
use Rattle.columns.specs.Tables.{Sheet, sheet_of, head_in, filled}
use Rattle.columns.proofs.SheetTrips.{one_text}
use Rattle.reader.specs.Sheets.{Read}

module _ (form : Form) (bs : List ℕ) (old new : List Record) (r : Result Head Fault) where
  accepted : (t : Sheet) → sheet_of form (length old) bs ≡ Ok t → r ≡ Ok t.head → new ≡ t.rows ++ drop (length t.rows) old → Read form bs old new r
  accepted t e a b =
      let told = one_text.only form (length old) bs t e in
      let count = told.valid.count in
      let rows : take t.head.duties new ≡ t.rows = ap (take t.head.duties) b ∙ take_at t.rows (drop (length t.rows) old) t.head.duties count in
      let past : drop t.head.duties new ≡ drop t.head.duties old =
      ap (drop t.head.duties) b ∙ drop_at t.rows (drop (length t.rows) old) t.head.duties count ∙ ap (λ (n : ℕ). drop n old) count in
      let head_is : (h : Head) → r ≡ Ok h → t.head ≡ h = λ h q. (let k = sym a ∙ q in cc) in
      record {
        only = λ h q.
            let P : Head → Type 0 = λ x. ReadsAs form (length old) bs (record { head = x; rows = take x.duties new }) in
            subst P (head_is h q) (subst (λ (xs : List Record). ReadsAs form (length old) bs (record { head = t.head; rows = xs })) (sym rows) told);
        back = λ u reads.
            let same : t ≡ u = let k = sym e ∙ one_text.back form (length old) bs u reads in cc in
            subst (λ (x : Sheet). (r ≡ Ok x.head) × (take x.head.duties new ≡ x.rows)) same (a, rows);
        past = λ h q. subst (λ (x : Head). drop x.duties new ≡ drop x.duties old) (head_is h q) past;
        kept = λ f q. absurd (never (sym q ∙ a));
      }

  refused : (f : Fault) → sheet_of form (length old) bs ≡ Err f → r ≡ Err f → new ≡ old → Read form bs old new r
  refused f e a b = record {
    only = λ h q. absurd (never (sym a ∙ q));
    back = λ u reads. absurd (never (sym e ∙ one_text.back form (length old) bs u reads));
    past = λ h q. absurd (never (sym a ∙ q));
    kept = λ _ _. b;
  }

  by_result : (m : Result Sheet Fault) → sheet_of form (length old) bs ≡ m → r ≡ head_in m → new ≡ filled m old → Read form bs old new r
  by_result (Ok t) e a b = accepted t e a b
  by_result (Err f) e a b = refused f e a b

  pub read_law : r ≡ head_in (sheet_of form (length old) bs) → new ≡ filled (sheet_of form (length old) bs) old → Read form bs old new r
  read_law a b = by_result (sheet_of form (length old) bs) refl a b
