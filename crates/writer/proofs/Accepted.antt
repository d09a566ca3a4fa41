-- What is known of a header and records that were not refused.
use Rattle.std.proofs.Common.{◌≡◌, ℕ, ◌≤◌, true, false, ltb, List, length, take, Some, None, Ok, Option, Bool, not, sym, refl, ◌∙◌, arith, length-take}
use Rattle.std.specs.List.{position_or_len, AllByRecursion}
use Rattle.std.proofs.ByRecursion.{All-from_get_or, All-weaker}
use Rattle.std.proofs.Math.Bool.{not-not}
use Rattle.std.proofs.lemmas.Bool.Decides.{nat_tests}
use Rattle.std.proofs.lemmas.List.Sums.{prefix_len_passes}
use Rattle.std.proofs.lemmas.Bool.{cond-false, ltb-false, le-ltb}
use Rattle.fault.proofs.Steps.{passed_unless, then_ok}
use Rattle.duty.specs.declared.records.Record.{Record}
use Rattle.duty.specs.Firsts.{first_failing}
use Rattle.duty.specs.declared.headers.Header.{Header}
use Rattle.duty.specs.Heads.{Head, head, head_limits}
use Rattle.duty.specs.Records.{in_cycle, first_misfit}
use Rattle.columns.specs.declared.forms.Form.{Form}
use Rattle.columns.specs.Checks.{misfit_fault, records_fault}
use Rattle.columns.specs.Texts.{text, text_length}
use Rattle.writer.specs.Puts.{Fitting}
use Rattle.writer.specs.Written.{sheet, write_of}
use Rattle.writer.proofs.Lines.{blank}

-- a header keeps its limits
pub limits_kept : (h : Header) → head_limits (head h) ≡ true
limits_kept h = grind (arith, nat_tests)

-- where no row is found, each is a duty record of the cycle
no_misfit : (cycle : ℕ) (rs : List Record) → first_misfit cycle rs ≡ None → AllByRecursion (λ r. in_cycle cycle r ≡ true) rs
unfolding first_failing
no_misfit cycle rs e =
    let fails : Record → Bool = λ r. not (in_cycle cycle r) in
    let all : length rs ≤ position_or_len fails rs = grind (arith, nat_tests) in
    All-from_get_or (λ r. in_cycle cycle r ≡ true) rs blank (λ k lt. sym (not-not _) ∙ prefix_len_passes (λ r. not (fails r)) rs k blank (omega arith))

misfit_none : (o : Option ℕ) → misfit_fault o ≡ Ok tt → o ≡ None
misfit_none None e = refl
misfit_none (Some i) e = cc

-- its numbers fit their columns
fitting : (cycle : ℕ) (r : Record) → in_cycle cycle r ≡ true → Fitting r
fitting cycle r e = record {
  cost = grind (arith, nat_tests);
  deadline = grind (arith, nat_tests);
  spacing = grind (arith, nat_tests);
  board = grind (arith, nat_tests);
}

module _ (h : Head) (rs : List Record) (ok : records_fault h rs ≡ Ok tt) where
  passed : (ltb (length rs) h.duties ≡ false) × (misfit_fault (first_misfit h.cycle (take h.duties rs)) ≡ Ok tt)
  passed = passed_unless _ _ _ _ ok

  pub enough : h.duties ≤ length rs
  enough = ltb-false (length rs) h.duties passed.0

  pub length_rows : length (take h.duties rs) ≡ h.duties
  length_rows = let few = enough in omega (arith, length-take h.duties rs)

  pub all_duties : AllByRecursion (λ r. in_cycle h.cycle r ≡ true) (take h.duties rs)
  all_duties = no_misfit h.cycle (take h.duties rs) (misfit_none _ passed.1)

  pub all_fitting : AllByRecursion Fitting (take h.duties rs)
  all_fitting = All-weaker (λ r. in_cycle h.cycle r ≡ true) Fitting (fitting h.cycle) (take h.duties rs) all_duties

  pub write_ok : (form : Form) (room : ℕ) → text_length form h.duties ≤ room → write_of form h rs room ≡ Ok (text form (sheet h rs))
  write_ok form room fits = then_ok _ ok ∙ cond-false _ _ _ (le-ltb room (text_length form h.duties) fits)
