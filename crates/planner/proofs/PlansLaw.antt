-- The call's law, from the definitions of its three steps.
use Rattle.std.proofs.Common.{◌≡◌, ℕ, ◌<◌, ◌≤◌, List, ◌++◌, length, get_or, take, drop, Some, None, Ok, Option, Result, refl, ap, ◌∙◌, subst, arith, length-append}
use Rattle.std.specs.List.{AllByRecursion}
use Rattle.std.proofs.lemmas.List.{take_at}
use Rattle.std.proofs.lemmas.Bool.{cond-false, le-ltb}
use Rattle.fault.specs.declared.Fault.{Fault}
use Rattle.fault.specs.Faults.{then}
use Rattle.fault.proofs.Steps.{then_ok, then_err}
use Rattle.duty.specs.declared.records.Record.{Record}
use Rattle.duty.specs.Heads.{Head}
use Rattle.duty.specs.Records.{first_misfit}
use Rattle.columns.specs.declared.forms.Form.TheVariants.{Table, Plan}
use Rattle.columns.specs.Checks.{misfit_fault, records_fault}
use Rattle.columns.specs.Tables.{Sheet}
use Rattle.columns.specs.Texts.{text, text_length, Valid}
use Rattle.columns.proofs.LineTrips.{limited}
use Rattle.columns.proofs.SheetTrips.{one_text}
use Rattle.gauge.specs.Letters.{letter_passed}
use Rattle.gauge.specs.LettersLemmas.{letter_bounded}
use Rattle.boards.specs.Lists.{no_record}
use Rattle.placing.specs.Laws.{FirstFit}
use Rattle.placing.specs.Outcome.{place_fault, placed_answer, first_fit, place_answer, placed_by, place_after}
use Rattle.placing.proofs.FirstFitLaw.{first_fit_law, first_fit_long}
use Rattle.placing.proofs.Whole.{within_time}
use Rattle.writer.specs.Written.{write_of, length_in, out_in}
use Rattle.planner.specs.Laws.{with_rows, Good, PutOut, Planned, Plans}
use Rattle.planner.specs.Plans.{plan_text}
use Rattle.planner.proofs.Fitting.{Fits, no_misfit, writable_fits, placed_fit}
use Rattle.planner.proofs.GoodPlans.{good_plan}

-- records of which the header's are duty records of its cycle pass the first checks
checked : (h : Head) (xs more : List Record) → length xs ≡ h.duties → AllByRecursion (Fits h.cycle) xs → records_fault h (xs ++ more) ≡ Ok tt
checked h xs more long fit =
    let part : take h.duties (xs ++ more) ≡ xs = take_at xs more h.duties long in
    cond-false _ _ _ (le-ltb (length (xs ++ more)) h.duties (omega (arith, length-append xs more)))
    ∙ ap misfit_fault (ap (first_misfit h.cycle) part ∙ no_misfit h.cycle xs fit)

module _ (t : Sheet) (more : List Record) (scratch room : ℕ) (valid : Valid Table t) (enough : t.head.duties ≤ scratch) (fits : text_length Plan t.head.duties ≤ room) where
  good : AllByRecursion (Fits t.head.cycle) t.rows
  good = writable_fits Table t.head.cycle t.rows valid.rows

  abbrev ff : List Record × Option ℕ
  ff = first_fit (letter_passed t.head.letter) t.head.boards t.head.cycle t.rows

  law : FirstFit (letter_passed t.head.letter) t.head.boards t.head.cycle t.rows ff.0 ff.1
  law = first_fit_law (letter_passed t.head.letter) t.head.boards t.head.cycle t.rows

  part : take t.head.duties (t.rows ++ more) ≡ t.rows
  part = take_at t.rows more t.head.duties valid.count

  past : place_fault t.head (t.rows ++ more) scratch ≡ Ok tt
  past =
      then_ok _ (checked t.head t.rows more valid.count good) ∙ cond-false _ _ _ (le-ltb scratch t.head.duties enough)

  answer_is : place_answer (letter_passed t.head.letter) t.head (t.rows ++ more) scratch ≡ placed_answer ff.1
  answer_is =
      then_ok _ past ∙ ap (λ rs. placed_answer (first_fit (letter_passed t.head.letter) t.head.boards t.head.cycle rs).1) part

  after_is : place_after (letter_passed t.head.letter) t.head (t.rows ++ more) scratch ≡ ff.0 ++ drop t.head.duties (t.rows ++ more)
  after_is =
      ap (λ m. placed_by m (letter_passed t.head.letter) t.head (t.rows ++ more)) past
      ∙ ap (λ rs. (first_fit (letter_passed t.head.letter) t.head.boards t.head.cycle rs).0 ++ drop t.head.duties (t.rows ++ more)) part

  long : length ff.0 ≡ t.head.duties
  long = first_fit_long (letter_passed t.head.letter) t.head.boards t.head.cycle t.rows ∙ valid.count

  -- where all were placed, they are duty records still
  fit : ff.1 ≡ None → AllByRecursion (Fits t.head.cycle) ff.0
  fit all =
      let boards = (limited t.head valid.limits).boards.high in
      let on_board : (k : ℕ) → k < length ff.0 → (get_or ff.0 k no_record).board ≤ t.head.boards = λ k l. (law.all_on_boards all k (omega (arith, l, long, valid.count))).1 in
      let small : (k : ℕ) → k < length ff.0 → (get_or ff.0 k no_record).board ≤ 16 = λ k l. omega (arith, on_board k l, boards) in
      placed_fit t.head.cycle ff.0 t.rows law.same_duties small good

  good_by : ff.1 ≡ None → Good (with_rows t ff.0)
  good_by all =
      good_plan t ff.0 (subst (FirstFit (letter_passed t.head.letter) t.head.boards t.head.cycle t.rows ff.0) all law) valid long (fit all)

  -- and the plan is written
  written : ff.1 ≡ None → write_of Plan t.head (place_after (letter_passed t.head.letter) t.head (t.rows ++ more) scratch) room ≡ Ok (text Plan (with_rows t ff.0))
  written all =
      let rest = drop t.head.duties (t.rows ++ more) in
      ap (λ rs. write_of Plan t.head rs room) after_is
      ∙ then_ok _ (checked t.head ff.0 rest long (fit all))
      ∙ cond-false _ _ _ (le-ltb room (text_length Plan t.head.duties) fits)
      ∙ ap (λ rs. Ok (text Plan (with_rows t rs))) (take_at ff.0 rest t.head.duties long)

  abbrev steps : Result (List ℕ) Fault
  steps = then (place_answer (letter_passed t.head.letter) t.head (t.rows ++ more) scratch) (λ _. write_of Plan t.head (place_after (letter_passed t.head.letter) t.head (t.rows ++ more) scratch) room)

  put_out : (out : List ℕ) (r : Result ℕ Fault) (after : List ℕ) (o : Option ℕ) → ff.1 ≡ o → r ≡ length_in steps → after ≡ out_in steps out → PutOut o (text Plan (with_rows t ff.0)) out r after
  put_out out r after None e a b =
      let whole : steps ≡ Ok (text Plan (with_rows t ff.0)) = then_ok _ (answer_is ∙ ap placed_answer e) ∙ written e in
      (a ∙ ap length_in whole, b ∙ ap (λ m. out_in m out) whole)
  put_out out r after (Some i) e a b =
      let whole = then_err (λ _. write_of Plan t.head (place_after (letter_passed t.head.letter) t.head (t.rows ++ more) scratch) room) (answer_is ∙ ap placed_answer e) in
      (a ∙ ap length_in whole, b ∙ ap (λ m. out_in m out) whole)

  planned : (out : List ℕ) (r : Result ℕ Fault) (after : List ℕ) → r ≡ length_in steps → after ≡ out_in steps out → Planned t out r after
  planned out r after a b = record { rows = ff.0; unplaced = ff.1; placing = law; within_time = within_time (letter_passed t.head.letter) (letter_bounded t.head.letter) _ _ _ _ _ law; put_out = put_out out r after ff.1 refl a b; good = good_by }

pub plans_law : (bs : List ℕ) (old : List Record) (scratch : ℕ) (out : List ℕ) (r : Result ℕ Fault) (after : List ℕ) → r ≡ length_in (plan_text bs old scratch (length out)) → after ≡ out_in (plan_text bs old scratch (length out)) out → Plans bs old scratch out r after
plans_law bs old scratch out r after a b = record {
  unread = λ f e. let whole = then_err _ e in (a ∙ ap length_in whole, b ∙ ap (λ m. out_in m out) whole);
  table = λ t reads enough fits.
      let whole = then_ok _ (one_text.back Table (length old) bs t reads) in
      planned t (drop (length t.rows) old) scratch (length out) reads.valid enough fits out r after (a ∙ ap length_in whole) (b ∙ ap (λ m. out_in m out) whole);
}
