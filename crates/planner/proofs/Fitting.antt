-- Placed records are duty records of the cycle still: only their boards changed, to boards of the rack.
use Rattle.std.proofs.Common.{◌≡◌, ℕ, suc, ◌%◌, ◌<◌, ◌≤◌, true, eqb, List, [], ◌∷◌, length, get_or, None, sym, ap, ◌∙◌, arith}
use Rattle.std.proofs.ByRecursion.{all-has, has_get_or}
use Rattle.std.specs.List.{AllByRecursion}
use Rattle.std.proofs.lemmas.Bool.{and_from, and_parts, le-leb}
use Rattle.duty.specs.declared.names.Name.{Name}
use Rattle.duty.specs.declared.records.Record.{Record}
use Rattle.duty.specs.declared.timings.Timing.{Timing}
use Rattle.duty.specs.Names.{named}
use Rattle.duty.specs.Records.{duty_record, in_cycle, first_misfit}
use Rattle.duty.specs.Timely.{timely}
use Rattle.columns.specs.declared.forms.Form.{Form}
use Rattle.columns.specs.declared.forms.Form.TheVariants.{Table, Plan}
use Rattle.columns.specs.Texts.{Writable}
use Rattle.boards.specs.Lists.{no_record}
use Rattle.plans.proofs.Passing.{all_passing}
use Rattle.placing.specs.FirstFit.{moved_to, cleared}

abbrev pub Fits : ℕ → Record → Type 0
Fits cycle r = in_cycle cycle r ≡ true

pub no_misfit : (cycle : ℕ) (rs : List Record) → AllByRecursion (Fits cycle) rs → first_misfit cycle rs ≡ None
no_misfit cycle rs h =
    all_passing (in_cycle cycle) no_record rs (λ k l. all-has (Fits cycle) rs _ h (has_get_or rs k no_record l))

pub writable_fits : (form : Form) (cycle : ℕ) (rs : List Record) → AllByRecursion (Writable form cycle) rs → AllByRecursion (Fits cycle) rs
writable_fits form cycle [] h = tt
writable_fits form cycle (r ∷ rs) h = (h.0.duty, writable_fits form cycle rs h.1)

-- a record on another board of a rack
moved_fits : (cycle : ℕ) (f r : Record) → moved_to f 0 ≡ moved_to r 0 → f.board ≤ 16 → Fits cycle r → Fits cycle f
moved_fits cycle f r e small h =
    let name : r.name ≡ f.name = sym (ap (λ (x : Record). x.name) e) in
    let timing : r.timing ≡ f.timing = sym (ap (λ (x : Record). x.timing) e) in
    let a = and_parts (duty_record r) _ h in
    let b = and_parts (named r.name.bytes) _ a.0 in
    let c = and_parts (timely r.timing) _ b.1 in
    let good_name : named f.name.bytes ≡ true = ap (λ (x : Name). named x.bytes) (sym name) ∙ b.0 in
    let good_timing : timely f.timing ≡ true = ap timely (sym timing) ∙ c.0 in
    let divides : eqb (cycle % f.timing.spacing) 0 ≡ true = ap (λ (x : Timing). eqb (cycle % x.spacing) 0) (sym timing) ∙ a.1 in
    and_from _ _ (and_from _ _ good_name (and_from _ _ good_timing (le-leb _ _ small))) divides

pub placed_fit : (cycle : ℕ) (fs rs : List Record) → cleared fs ≡ cleared rs → ((k : ℕ) → k < length fs → (get_or fs k no_record).board ≤ 16) → AllByRecursion (Fits cycle) rs → AllByRecursion (Fits cycle) fs
placed_fit cycle [] rs e small h = tt
placed_fit cycle (f ∷ fs) [] e small h = let z : ◌≡◌ {A = ℕ} 0 1 = cc in absurd (omega arith)
placed_fit cycle (f ∷ fs) (r ∷ rs) e small h =
    let first : moved_to f 0 ≡ moved_to r 0 = cc in
    let rest : cleared fs ≡ cleared rs = cc in (
      moved_fits cycle f r first (small 0 (omega arith)) h.0,
      placed_fit cycle fs rs rest (λ k l. small (suc k) (omega arith)) h.1,
    )

-- what could be written in a table can be written in a plan
pub placed_writable : (cycle : ℕ) (fs rs : List Record) → cleared fs ≡ cleared rs → AllByRecursion (Fits cycle) fs → AllByRecursion (Writable Table cycle) rs → AllByRecursion (Writable Plan cycle) fs
placed_writable cycle [] rs e fit h = tt
placed_writable cycle (f ∷ fs) [] e fit h = let z : ◌≡◌ {A = ℕ} 0 1 = cc in absurd (omega arith)
placed_writable cycle (f ∷ fs) (r ∷ rs) e fit h =
    let first : moved_to f 0 ≡ moved_to r 0 = cc in
    let rest : cleared fs ≡ cleared rs = cc in
    let name : f.name ≡ r.name = ap (λ (x : Record). x.name) first in (
      record { sized = ap (λ (x : Name). length x.bytes) name ∙ h.0.sized; duty = fit.0; placeless = tt },
      placed_writable cycle fs rs rest fit.1 h.1,
    )
