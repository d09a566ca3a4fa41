-- A plan and the copy of its first 64 records are closed and run alike.
use Rattle.std.proofs.Common.{◌≡◌, ℕ, ◌<◌, ◌≤◌, Bool, cond, ltb, List, length, take, Err, sym, ap, ◌∙◌, ap₂, ⊎_elim, arith, length-take}
use Rattle.std.proofs.lemmas.List.{take-take}
use Rattle.std.proofs.lemmas.Bool.{cases_lt, lt-ltb, le-ltb}
use Rattle.fault.specs.declared.Cause.TheVariants.{RecordsShort}
use Rattle.fault.specs.declared.Layer.TheVariants.{Call}
use Rattle.fault.specs.Faults.{fault, then}
use Rattle.duty.specs.declared.records.Record.{Record}
use Rattle.duty.specs.declared.timings.Timing.{Timing}
use Rattle.duty.specs.Heads.{Head}
use Rattle.duty.specs.Records.{first_misfit}
use Rattle.columns.specs.Checks.{misfit_fault}
use Rattle.columns.specs.Layout.{duties_field}
use Rattle.boards.specs.Lists.{on_board}
use Rattle.plans.specs.Closing.{first_homeless, homeless_fault, overfull_fault}
use Rattle.board.specs.Loads.{load_fault}
use Rattle.board.specs.Runs.{listed, run_fault}

module _ (h : Head) (rs : List Record) (most : ℕ) (few : h.duties ≤ most) where
  same_rows : take h.duties (take most rs) ≡ take h.duties rs
  same_rows = take-take h.duties most rs few

  -- as many as the duties are there, or not
  same_test : ltb (length (take most rs)) h.duties ≡ ltb (length rs) h.duties
  same_test =
      ⊎_elim
      (λ (low : length rs < h.duties). lt-ltb _ _ (omega (arith, length-take most rs)) ∙ sym (lt-ltb _ _ low))
      (λ (high : h.duties ≤ length rs). le-ltb _ _ (omega (arith, length-take most rs)) ∙ sym (le-ltb _ _ high))
      (cases_lt (length rs) h.duties)

  pub same_fault : (passes : List Timing → ℕ → Bool) (number : ℕ) → run_fault passes h (take most rs) number ≡ run_fault passes h rs number
  same_fault passes number =
      ap₂ (λ (short : Bool) (rows : List Record).
      then (then (cond short (Err (fault RecordsShort 1 duties_field.first Call)) (misfit_fault (first_misfit h.cycle rows))) (λ _. then (homeless_fault (first_homeless h.boards rows)) (λ _. overfull_fault passes rows h.cycle 1 h.boards))) (λ _. load_fault number h.boards))
      same_test same_rows

  pub same_listed : (number : ℕ) → listed h (take most rs) number ≡ listed h rs number
  same_listed number = ap (on_board number) same_rows
