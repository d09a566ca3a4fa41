-- Reading and then closing: from what each answers to what the whole answers, and its law.
use Rattle.std.proofs.Common.{◌≡◌, ℕ, List, ◌++◌, length, drop, Ok, Err, Result, sym, refl, ap, ◌∙◌}
use Rattle.fault.specs.declared.Fault.{Fault}
use Rattle.fault.proofs.Steps.{never, then_ok, then_err}
use Rattle.duty.specs.declared.records.Record.{Record}
use Rattle.duty.specs.Heads.{Head}
use Rattle.columns.specs.declared.forms.Form.TheVariants.{Plan}
use Rattle.columns.specs.Laws.{ReadsAs}
use Rattle.columns.specs.Tables.{Sheet, sheet_of, head_in, filled}
use Rattle.columns.proofs.LineTrips.{limited}
use Rattle.columns.proofs.SheetTrips.{one_text}
use Rattle.gauge.specs.Letters.{letter_passed}
use Rattle.plans.specs.Closing.{close_fault}
use Rattle.plans.specs.Laws.{Decides}
use Rattle.plans.proofs.Deciding.{decides}
use Rattle.planner.specs.Checks.{check_fault, Checks}

module _ (bs : List ℕ) (old : List Record) where
  by_refusal : (f : Fault) (m : Result Sheet Fault) → sheet_of Plan (length old) bs ≡ m → Err f ≡ head_in m → check_fault bs old ≡ Err f
  by_refusal f (Ok t) e h = absurd (never h)
  by_refusal f (Err g) e h = let q : g ≡ f = cc in then_err _ (e ∙ ap Err q)

  pub unread_fault : (f : Fault) → Err f ≡ head_in (sheet_of Plan (length old) bs) → check_fault bs old ≡ Err f
  unread_fault f h = by_refusal f (sheet_of Plan (length old) bs) refl h

  by_sheet : (h : Head) (rs : List Record) (m : Result Sheet Fault) → sheet_of Plan (length old) bs ≡ m → Ok h ≡ head_in m → rs ≡ filled m old → check_fault bs old ≡ close_fault (letter_passed h.letter) h rs
  by_sheet h rs (Err f) e a b = absurd (never (sym a))
  by_sheet h rs (Ok t) e a b =
      let q : t.head ≡ h = cc in
      then_ok _ e ∙ (λ i. close_fault (letter_passed (q i).letter) (q i) (sym b i))

  pub read_fault : (h : Head) (rs : List Record) → Ok h ≡ head_in (sheet_of Plan (length old) bs) → rs ≡ filled (sheet_of Plan (length old) bs) old → check_fault bs old ≡ close_fault (letter_passed h.letter) h rs
  read_fault h rs a b = by_sheet h rs (sheet_of Plan (length old) bs) refl a b

  module _ (r : Result (Unit {0}) Fault) (e : r ≡ check_fault bs old) where
    by_reading : (t : Sheet) → ReadsAs Plan (length old) bs t → Decides (letter_passed t.head.letter) t.head (t.rows ++ drop (length t.rows) old) r
    by_reading t reads =
        decides _ _ _ (limited t.head reads.valid.limits).duties.high r (e ∙ then_ok _ (one_text.back Plan (length old) bs t reads))

    pub checks_law : Checks bs old r
    checks_law = record { unread = λ f g. e ∙ then_err _ g; plan = by_reading }
