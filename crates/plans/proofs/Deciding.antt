-- Closing is refused just where the plan is not one that can be closed.
use Rattle.std.proofs.Common.{◌≡◌, ℕ, zero, suc, ◌+◌, ◌<◌, ◌≤◌, Bool, true, ltb, leb, List, length, get_or, take, Some, None, Ok, Err, Option, Result, sym, refl, ap, ◌∙◌, ⊎_elim, arith}
use Rattle.std.proofs.lemmas.List.{get_or-take, length-take-le}
use Rattle.std.proofs.lemmas.Bool.{cases_eq, cond-true, cond-false, and_from, and_parts, le-leb, leb-true, ltb-false, le-ltb}
use Rattle.fault.specs.declared.Fault.{Fault}
use Rattle.fault.specs.Faults.{then}
use Rattle.fault.proofs.Steps.{then_ok, passed_unless, passed_where}
use Rattle.duty.specs.declared.records.Record.{Record}
use Rattle.duty.specs.declared.timings.Timing.{Timing}
use Rattle.duty.specs.Demand.{demands}
use Rattle.duty.specs.Heads.{Head}
use Rattle.duty.specs.Limits.{most_duties}
use Rattle.duty.specs.Records.{in_cycle}
use Rattle.columns.specs.Checks.{misfit_fault, records_fault}
use Rattle.boards.specs.Lists.{no_record, board_passed}
use Rattle.boards.proofs.Few.{passed_few}
use Rattle.plans.specs.Closing.{on_some, first_homeless, homeless_fault, overfull_fault, close_fault}
use Rattle.plans.specs.Laws.{Closable, Decides, Kept}
use Rattle.plans.proofs.Passing.{none_failing, all_passing}

-- a check that came before a good end was passed
first_good : {B : Type 0} (m : Result (Unit {0}) Fault) (k : Unit {0} → Result B Fault) (y : B) → then m k ≡ Ok y → (m ≡ Ok tt) × (k tt ≡ Ok y)
first_good (Ok tt) k y e = (refl, e)
first_good (Err f) k y e = cc

misfit_none : (o : Option ℕ) → misfit_fault o ≡ Ok tt → o ≡ None
misfit_none None e = refl
misfit_none (Some i) e = cc

homeless_none : (o : Option ℕ) → homeless_fault o ≡ Ok tt → o ≡ None
homeless_none None e = refl
homeless_none (Some i) e = cc

-- every board from b on passes just where none is refused
module _ (passes : List Timing → ℕ → Bool) (rs : List Record) (cycle : ℕ) where
  pub none_overfull : (b k : ℕ) → overfull_fault passes rs cycle b k ≡ Ok tt → (c : ℕ) → b ≤ c → c < b + k → board_passed passes rs c cycle ≡ true
  none_overfull b zero e c l h = absurd (omega arith)
  none_overfull b (suc k) e c l h =
      let p = passed_where (board_passed passes rs b cycle) (overfull_fault passes rs cycle (b + 1) k) _ tt e in
      ⊎_elim
      (λ same. ap (λ (x : ℕ). board_passed passes rs x cycle) same ∙ p.0)
      (λ other. none_overfull (b + 1) k p.1 c (omega arith) (omega arith))
      (cases_eq c b)

  pub all_below : (b k : ℕ) → ((c : ℕ) → b ≤ c → c < b + k → board_passed passes rs c cycle ≡ true) → overfull_fault passes rs cycle b k ≡ Ok tt
  all_below b zero h = refl
  all_below b (suc k) h =
      cond-true (board_passed passes rs b cycle) _ _ (h b (omega arith) (omega arith)) ∙ all_below (b + 1) k (λ c l m. h c (omega arith) (omega arith))

module _ (passes : List Timing → ℕ → Bool) (h : Head) (rs : List Record) (few : h.duties ≤ most_duties) where
  part_long : h.duties ≤ length rs → length (take h.duties rs) ≡ h.duties
  part_long enough = length-take-le h.duties rs enough

  at_part : (k : ℕ) → k < h.duties → get_or (take h.duties rs) k no_record ≡ get_or rs k no_record
  at_part k l = get_or-take h.duties rs k no_record l

  pub only : close_fault passes h rs ≡ Ok tt → Closable passes h rs
  only e =
      let first = first_good (records_fault h rs) _ tt e in
      let second = first_good (homeless_fault (first_homeless h.boards (take h.duties rs))) _ tt first.1 in
      let p = passed_unless (ltb (length rs) h.duties) _ _ tt first.0 in
      let enough = ltb-false (length rs) h.duties p.0 in
      let long = part_long enough in
      let misfits = misfit_none _ p.1 in
      let homes = homeless_none _ second.0 in
      record {
        enough = enough;
        duties = λ k l. ap (in_cycle h.cycle) (sym (at_part k l)) ∙ none_failing (in_cycle h.cycle) no_record (take h.duties rs) misfits k (omega arith);
        on_boards = λ k l.
            let home = ap (on_some h.boards) (sym (at_part k l)) ∙ none_failing (on_some h.boards) no_record (take h.duties rs) homes k (omega arith) in
            let q = and_parts (leb 1 (get_or rs k no_record).board) _ home in
            (leb-true _ _ q.0, leb-true _ _ q.1);
        passing = λ b l m. sym (passed_few passes (take h.duties rs) b h.cycle (omega arith)) ∙ none_overfull passes (take h.duties rs) h.cycle 1 h.boards second.1 b l (omega arith);
      }

  pub back : Closable passes h rs → close_fault passes h rs ≡ Ok tt
  back c =
      let long = part_long c.enough in
      let misfits = all_passing (in_cycle h.cycle) no_record (take h.duties rs) (λ k l. ap (in_cycle h.cycle) (at_part k (omega arith)) ∙ c.duties k (omega arith)) in
      let homes = all_passing (on_some h.boards) no_record (take h.duties rs) (λ k l. ap (on_some h.boards) (at_part k (omega arith)) ∙ and_from _ _ (le-leb _ _ (c.on_boards k (omega arith)).0) (le-leb _ _ (c.on_boards k (omega arith)).1)) in
      then_ok _ (cond-false _ _ _ (le-ltb (length rs) h.duties c.enough) ∙ ap misfit_fault misfits)
      ∙ then_ok _ (ap homeless_fault homes)
      ∙ all_below passes (take h.duties rs) h.cycle 1 h.boards (λ b l m. passed_few passes (take h.duties rs) b h.cycle (omega arith) ∙ c.passing b l (omega arith))

  pub decides : (r : Result (Unit {0}) Fault) → r ≡ close_fault passes h rs → Decides passes h rs r
  decides r e = record { only = λ q. only (sym e ∙ q); back = λ c. e ∙ back c }

  pub kept : ((ds : List Timing) (cycle : ℕ) → passes ds cycle ≡ true → (t : ℕ) → demands ds t ≤ t) → close_fault passes h rs ≡ Ok tt → Kept h.boards h.duties rs
  kept bounded e = λ b t l m. bounded _ h.cycle ((only e).passing b l m) t
