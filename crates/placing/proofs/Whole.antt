-- Placing as a whole: past the checks, the header's records are placed by first-fit.
use Rattle.std.proofs.Common.{◌≡◌, ℕ, ◌≤◌, Bool, true, ltb, List, ◌++◌, length, take, drop, Ok, Err, Option, Result, sym, ap, ◌∙◌, subst, ⊎_elim, arith}
use Rattle.std.proofs.lemmas.List.{length-take-le, take_at}
use Rattle.std.proofs.lemmas.Bool.{cond-false, le-ltb, ltb-false}
use Rattle.fault.specs.declared.Fault.{Fault}
use Rattle.fault.proofs.Steps.{never, then_ok, then_back, passed_unless}
use Rattle.duty.specs.declared.records.Record.{Record}
use Rattle.duty.specs.declared.timings.Timing.{Timing}
use Rattle.duty.specs.Demand.{demands}
use Rattle.duty.specs.Heads.{Head}
use Rattle.columns.specs.Checks.{records_fault}
use Rattle.boards.specs.Lists.{on_board}
use Rattle.placing.specs.declared.lined.Lined.{Lined}
use Rattle.placing.specs.Laws.{FirstFit, PlacedLaw, WithinTime}
use Rattle.placing.specs.Outcome.{place_fault, placed_answer, first_fit, place_answer, placed_by, place_after}
use Rattle.placing.specs.Scratch.{Past}
use Rattle.placing.proofs.FirstFitLaw.{first_fit_law, first_fit_long}

pub enough : (h : Head) (rs : List Record) → Ok tt ≡ records_fault h rs → h.duties ≤ length rs
enough h rs e = ltb-false _ _ (passed_unless (ltb (length rs) h.duties) _ _ tt (sym e)).0

module _ (h : Head) (rs : List Record) (room d : ℕ) (good : Ok tt ≡ records_fault h rs) (is : d ≡ h.duties) (fits : d ≤ room) where
  fine : place_fault h rs room ≡ Ok tt
  fine = then_ok _ (sym good) ∙ cond-false _ _ _ (le-ltb room h.duties (omega arith))

  part_long : length (take d rs) ≡ h.duties
  part_long = length-take-le d rs (omega (arith, enough h rs good)) ∙ is

  pub no_fault : (f : Fault) → place_fault h rs room ≡ Err f → ⊥
  no_fault f e = never (sym e ∙ fine)

  pub past_part : (xs ys : List Lined) → Past (length (take d rs)) xs ys → Past h.duties xs ys
  past_part xs ys p = subst (λ (k : ℕ). Past k xs ys) part_long p

  module _ (passes : List Timing → ℕ → Bool) where
    pub answer_is : placed_answer (first_fit passes h.boards h.cycle (take d rs)).1 ≡ place_answer passes h rs room
    answer_is =
        ap (λ (k : ℕ). placed_answer (first_fit passes h.boards h.cycle (take k rs)).1) is ∙ sym (then_ok _ fine)

    pub after_is : (first_fit passes h.boards h.cycle (take d rs)).0 ++ drop d rs ≡ place_after passes h rs room
    after_is =
        ap (λ (k : ℕ). (first_fit passes h.boards h.cycle (take k rs)).0 ++ drop k rs) is ∙ sym (ap (λ m. placed_by m passes h rs) fine)

-- the law of a placing that got past its checks
pub placed_law : (passes : List Timing → ℕ → Bool) (h : Head) (rs after : List Record) (room : ℕ) (r : Result (Unit {0}) Fault) → r ≡ place_answer passes h rs room → after ≡ place_after passes h rs room → place_fault h rs room ≡ Ok tt → PlacedLaw passes h.boards h.cycle h.duties rs after r
placed_law passes h rs after room r a b e =
    then_back (records_fault h rs) _ tt e (λ _ good _.
    let ff = first_fit passes h.boards h.cycle (take h.duties rs) in
    let law = first_fit_law passes h.boards h.cycle (take h.duties rs) in
    let long : length ff.0 ≡ h.duties = first_fit_long passes h.boards h.cycle (take h.duties rs) ∙ length-take-le h.duties rs (enough h rs (sym good)) in
    let part : take h.duties after ≡ ff.0 =
    ap (take h.duties) (b ∙ ap (λ m. placed_by m passes h rs) e) ∙ take_at ff.0 (drop h.duties rs) h.duties long in
    record {
      outcome = ff.1;
      answered = a ∙ then_ok _ e;
      placing = subst (λ (l : List Record). FirstFit passes h.boards h.cycle (take h.duties rs) l ff.1) (sym part) law;
    })

-- where passing bounds the demand, the placed boards are asked for no more than they can give
pub within_time : (passes : List Timing → ℕ → Bool) → ((ds : List Timing) (cycle : ℕ) → passes ds cycle ≡ true → (t : ℕ) → demands ds t ≤ t) → (boards cycle : ℕ) (rs fs : List Record) (o : Option ℕ) → FirstFit passes boards cycle rs fs o → WithinTime boards fs
within_time passes bounded boards cycle rs fs o law b l h t =
    ⊎_elim
    (λ none. subst (λ (ds : List Timing). demands ds t ≤ t) (sym none) (omega arith))
    (λ ok. bounded (on_board b fs) cycle ok t)
    (law.none_overfilled b l h)
