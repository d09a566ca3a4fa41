-- What came of a run, seen from the plan that it was of.
use Rattle.std.proofs.Common.{◌≡◌, ℕ, ◌≤◌, ◌&&◌, leb, List, IfOk, Ok, Err, Option, Result, refl, subst₂}
use Rattle.std.proofs.lemmas.Bool.{and_parts, leb-true}
use Rattle.fault.specs.declared.Fault.{Fault}
use Rattle.fault.proofs.Steps.{passed_where}
use Rattle.duty.specs.declared.timings.Timing.{Timing}
use Rattle.model.specs.declared.calls.Event.{Event}
use Rattle.board.specs.Loads.{load_fault}
use Rattle.board.specs.Runs.{Run, NotRun, Ran}

-- what came of a run, by other names for the same list and queues
pub same_run : {Q : Type 0} (held : Q → List (Option ℕ)) (ds ds' : List Timing) (before after : List Event) (given given' queue queue' : Q) (r : Result (Unit {0}) Fault) → ds ≡ ds' → given ≡ given' → queue ≡ queue' → Ran held ds before after given queue r → Ran held ds' before after given' queue' r
same_run held ds ds' before after given given' queue queue' (Ok u) e f g h =
    subst₂ (λ l q. Run held l before after q) e g h
same_run held ds ds' before after given given' queue queue' (Err x) e f g h =
    subst₂ (λ l q. NotRun l before after q) f g h

-- what holds where nothing was refused
pub unrefused : (r : Result (Unit {0}) Fault) (P : Type 0) → (r ≡ Ok tt → P) → IfOk r (λ _. P)
unrefused (Ok u) P h = h refl
unrefused (Err f) P h = tt

-- a number that loading lets through is one of the plan's boards
pub in_plan : (number boards : ℕ) → load_fault number boards ≡ Ok tt → (1 ≤ number) × (number ≤ boards)
in_plan number boards e =
    let ok = (passed_where (leb 1 number && leb number boards) _ _ _ e).0 in
    let parts = and_parts (leb 1 number) (leb number boards) ok in
    (leb-true 1 number parts.0, leb-true number boards parts.1)
