-- A plan by first-fit in which all duties were placed reads back from its text, and can be closed.
use Rattle.std.proofs.Common.{◌≡◌, ℕ, ◌<◌, ◌≤◌, true, List, ◌++◌, length, get_or, take, drop, None, Ok, sym, refl, ap, ◌∙◌, subst, ⊎_elim, arith, length-append}
use Rattle.std.specs.List.{AllByRecursion}
use Rattle.std.proofs.ByRecursion.{All-get_or}
use Rattle.std.proofs.lemmas.List.{take_at, get_or-take}
use Rattle.fault.proofs.Steps.{then_ok}
use Rattle.duty.specs.declared.records.Record.{Record}
use Rattle.duty.specs.declared.timings.Timing.{Timing}
use Rattle.duty.specs.Records.{in_cycle}
use Rattle.columns.specs.declared.forms.Form.TheVariants.{Table, Plan}
use Rattle.columns.specs.Tables.{Sheet, sheet_of}
use Rattle.columns.specs.Texts.{text, Valid}
use Rattle.columns.proofs.LineTrips.{limited}
use Rattle.columns.proofs.SheetTrips.{one_text}
use Rattle.gauge.specs.Letters.{letter_passed}
use Rattle.gauge.specs.LettersLemmas.{common_ground}
use Rattle.boards.specs.Lists.{on_board, no_record}
use Rattle.placing.specs.Laws.{FirstFit}
use Rattle.plans.specs.Laws.{Closable}
use Rattle.plans.proofs.Deciding.{back}
use Rattle.planner.specs.Laws.{with_rows, Good}
use Rattle.planner.proofs.Fitting.{Fits, placed_writable}

module _ (t : Sheet) (fs : List Record) (law : FirstFit (letter_passed t.head.letter) t.head.boards t.head.cycle t.rows fs None) (valid : Valid Table t) (long : length fs ≡ t.head.duties) (fit : AllByRecursion (Fits t.head.cycle) fs) where
  valid_plan : Valid Plan (with_rows t fs)
  valid_plan = record { limits = valid.limits; count = long; rows = placed_writable t.head.cycle fs t.rows law.same_duties fit valid.rows }

  reads_back : (room : ℕ) → t.head.duties ≤ room → sheet_of Plan room (text Plan (with_rows t fs)) ≡ Ok (with_rows t fs)
  reads_back room enough = one_text.back Plan room _ (with_rows t fs) (record { valid = valid_plan; written = refl; room_for = enough })

  module _ (more : List Record) where
    part : take t.head.duties (fs ++ more) ≡ fs
    part = take_at fs more t.head.duties long

    at_part : (k : ℕ) → k < t.head.duties → get_or (fs ++ more) k no_record ≡ get_or fs k no_record
    at_part k l = sym (get_or-take t.head.duties (fs ++ more) k no_record l) ∙ ap (λ (rs : List Record). get_or rs k no_record) part

    -- an empty board passes, as the empty list does
    passing : (b : ℕ) → 1 ≤ b → b ≤ t.head.boards → letter_passed t.head.letter (on_board b fs) t.head.cycle ≡ true
    passing b l m =
        let cycle = (limited t.head valid.limits).cycle in
        ⊎_elim
        (λ none. ap (λ (ds : List Timing). letter_passed t.head.letter ds t.head.cycle) none ∙ common_ground.empty t.head.letter t.head.cycle cycle.low cycle.high)
        (λ ok. ok)
        (law.none_overfilled b l m)

    closable : Closable (letter_passed t.head.letter) t.head (fs ++ more)
    closable = record {
      enough = omega (arith, length-append fs more, long);
      duties = λ k l. ap (in_cycle t.head.cycle) (at_part k l) ∙ All-get_or (Fits t.head.cycle) fs k no_record (omega (arith, l, long)) fit;
      on_boards = λ k l. subst (λ (r : Record). (1 ≤ r.board) × (r.board ≤ t.head.boards)) (sym (at_part k l)) (law.all_on_boards refl k (omega (arith, l, valid.count)));
      passing = λ b l m. ap (λ (rs : List Record). letter_passed t.head.letter (on_board b rs) t.head.cycle) part ∙ passing b l m;
    }

  pub good_plan : Good (with_rows t fs)
  good_plan = record {
    reads_back = reads_back;
    closes = λ old enough.
        then_ok _ (reads_back (length old) enough)
        ∙ back (letter_passed t.head.letter) t.head (fs ++ drop (length fs) old) (limited t.head valid.limits).duties.high (closable (drop (length fs) old));
  }
