-- A board's duties, gathered from the records of a plan.
use Rattle.std.proofs.Common.{◌≡◌, ℕ, suc, ◌+◌, ◌<◌, ◌≤◌, true, eqb, leb, List, [], ◌∷◌, ◌++◌, length, get_or, take, Some, None, Err, Option, sym, refl, ap, ◌∙◌, subst, ⊎_elim, append-nil, arith, length-take}
use Rattle.std.specs.List.{AllByRecursion}
use Rattle.std.proofs.ByRecursion.{All-from_get_or}
use Rattle.std.proofs.lemmas.List.{take_more, get_or-take}
use Rattle.std.proofs.lemmas.Bool.{cond-true, cond-false, cond_both, cases_lt, and_parts, and_from, eq-eqb, ne_eqb, le-leb}
use Rattle.fault.specs.declared.Fault.{Fault}
use Rattle.fault.proofs.Steps.{never}
use Rattle.duty.specs.declared.duties.Duty.{Duty}
use Rattle.duty.specs.declared.records.Record.{Record}
use Rattle.duty.specs.declared.timings.Timing.{Timing}
use Rattle.duty.specs.Demand.{demands}
use Rattle.duty.specs.Limits.{most_boards, most_duties}
use Rattle.duty.specs.Names.{named}
use Rattle.duty.specs.Records.{duty_record, in_cycle, duty_of}
use Rattle.duty.specs.Timely.{timely}
use Rattle.gauge.specs.Fairness.{Timed, timed}
use Rattle.boards.specs.Lists.{on_board, no_record}
use Rattle.boards.proofs.Collecting.{on_board_append}
use Rattle.boards.proofs.Few.{on_board_few}
use Rattle.queue.specs.Places.{places as width}
use Rattle.model.specs.Boards.{Board, loaded}
use Rattle.board_state.specs.BoardOf.{seating}
use Rattle.board_state.proofs.Seating.{seated}
use Rattle.board.specs.Loads.{load_fault}

-- the duty of a duty record has its timing
same_timing : (d : Duty) (r : Record) → duty_record r ≡ true → Some d.timing ≡ duty_of r → d.timing ≡ r.timing
same_timing d r ok e = let f : Some d.timing ≡ Some r.timing = e ∙ cond-true _ _ _ ok in cc

-- and there is one
pub some_duty : (r : Record) → duty_record r ≡ true → ◌≡◌ {A = Option Timing} None (duty_of r) → ⊥
some_duty r ok e =
    let f : ◌≡◌ {A = Option Timing} None (Some r.timing) = e ∙ cond-true _ _ _ ok in
    let z : ◌≡◌ {A = ℕ} 0 1 = cc in
    omega arith

-- a loop that gives a place to each duty of the board
module _ (rs : List Record) (b i : ℕ) (within : i < length rs) (state : Board) (so_far : state ≡ loaded (take width (on_board b (take i rs)))) where
  front : on_board b (take (i + 1) rs) ≡ on_board b (take i rs) ++ on_board b (get_or rs i no_record ∷ [])
  front = ap (on_board b) (take_more rs i no_record within) ∙ on_board_append b (take i rs) (get_or rs i no_record ∷ [])

  pub gathers : (d : Duty) → (get_or rs i no_record).board ≡ b → duty_record (get_or rs i no_record) ≡ true → Some d.timing ≡ duty_of (get_or rs i no_record) → seating state d.timing ≡ loaded (take width (on_board b (take (i + 1) rs)))
  gathers d here ok e =
      let r = get_or rs i no_record in
      let one : on_board b (r ∷ []) ≡ d.timing ∷ [] = cond-true _ _ _ (eq-eqb _ _ here) ∙ ap (λ (t : Timing). t ∷ []) (sym (same_timing d r ok e)) in
      ap (λ (x : Board). seating x d.timing) so_far
      ∙ seated (on_board b (take i rs)) d.timing
      ∙ ap (λ (l : List Timing). loaded (take width l)) (sym (front ∙ ap (λ (l : List Timing). on_board b (take i rs) ++ l) one))

  pub passes : ((get_or rs i no_record).board ≡ b → ⊥) → state ≡ loaded (take width (on_board b (take (i + 1) rs)))
  passes other =
      let r = get_or rs i no_record in
      let none : on_board b (r ∷ []) ≡ [] = cond-false _ _ _ (ne_eqb _ _ other) in
      so_far
      ∙ ap (λ (l : List Timing). loaded (take width l)) (sym (front ∙ ap (λ (l : List Timing). on_board b (take i rs) ++ l) none ∙ append-nil (on_board b (take i rs))))

-- what holds of the timing of each record holds of each duty of a board
all_on_board : (P : Timing → Type 0) (b : ℕ) (rs : List Record) → AllByRecursion (λ r. P r.timing) rs → AllByRecursion P (on_board b rs)
all_on_board P b [] a = tt
all_on_board P b (r ∷ rs) a =
    cond_both (eqb r.board b) (r.timing ∷ on_board b rs) (on_board b rs) (AllByRecursion P) (λ t. (a.0, all_on_board P b rs a.1)) (λ t. all_on_board P b rs a.1)

record_timed : (r : Record) → duty_record r ≡ true → Timed r.timing
record_timed r h = timed r.timing (and_parts (timely r.timing) (leb r.board most_boards) (and_parts (named r.name.bytes) _ h).1).0

-- the duties of a board are duties
pub all_timed_on : (b : ℕ) (rs : List Record) → ((k : ℕ) → k < length rs → duty_record (get_or rs k no_record) ≡ true) → AllByRecursion Timed (on_board b rs)
all_timed_on b rs h =
    all_on_board Timed b rs (All-from_get_or (λ r. Timed r.timing) rs no_record (λ k l. record_timed (get_or rs k no_record) (h k l)))

-- a duty record of the cycle is a duty record
pub first_records : (cycle n : ℕ) (rs : List Record) → ((k : ℕ) → k < n → in_cycle cycle (get_or rs k no_record) ≡ true) → (k : ℕ) → k < length (take n rs) → duty_record (get_or (take n rs) k no_record) ≡ true
first_records cycle n rs h k l =
    let low : k < n = omega (arith, length-take n rs) in
    ap duty_record (get_or-take n rs k no_record low) ∙ (and_parts (duty_record (get_or rs k no_record)) _ (h k low)).0

pub few_on : (b n : ℕ) (rs : List Record) → n ≤ most_duties → length (on_board b (take n rs)) ≤ most_duties
few_on b n rs h = omega (arith, on_board_few b (take n rs), length-take n rs)

-- no record has this board
none_on : (b : ℕ) (rs : List Record) → ((k : ℕ) → k < length rs → (get_or rs k no_record).board ≡ b → ⊥) → on_board b rs ≡ []
none_on b [] h = refl
none_on b (r ∷ rs) h = cond-false _ _ _ (ne_eqb r.board b (h 0 (omega arith))) ∙ none_on b rs (λ k l. h (suc k) (omega arith))

module _ (number boards n : ℕ) (rs : List Record) (placed : (k : ℕ) → k < n → 1 ≤ (get_or rs k no_record).board) (known : (k : ℕ) → k < n → (get_or rs k no_record).board ≤ boards) where
  -- a number that is none of the plan's boards
  outside : ((1 ≤ number) × (number ≤ boards) → ⊥) → on_board number (take n rs) ≡ []
  outside out =
      none_on number (take n rs) (λ k l e.
      let low : k < n = omega (arith, length-take n rs) in
      let here : (get_or rs k no_record).board ≡ number = ap (λ (r : Record). r.board) (sym (get_or-take n rs k no_record low)) ∙ e in
      out (omega (arith, here, placed k low), omega (arith, here, known k low)))

  pub unknown_empty : (f : Fault) → load_fault number boards ≡ Err f → on_board number (take n rs) ≡ []
  unknown_empty f e =
      outside (λ in'. never (sym e ∙ cond-true _ _ _ (and_from _ _ (le-leb 1 number in'.0) (le-leb number boards in'.1))))

  -- whatever the number is, the demand of its list is bounded
  pub any_bounded : ((b t : ℕ) → 1 ≤ b → b ≤ boards → demands (on_board b (take n rs)) t ≤ t) → (t : ℕ) → demands (on_board number (take n rs)) t ≤ t
  any_bounded kept t =
      ⊎_elim
      (λ (low : number < 1). none_asked (outside (λ in'. omega (arith, in'.0))))
      (λ (some : 1 ≤ number). ⊎_elim (λ (high : boards < number). none_asked (outside (λ in'. omega (arith, in'.1)))) (λ (there : number ≤ boards). kept number t some there) (cases_lt boards number))
      (cases_lt number 1)
    where
      none_asked : on_board number (take n rs) ≡ [] → demands (on_board number (take n rs)) t ≤ t
      none_asked e = subst (λ (ds : List Timing). demands ds t ≤ t) (sym e) (omega arith)
