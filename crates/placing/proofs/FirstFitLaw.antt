-- Placing by first-fit keeps its law: duty by duty, from no duty on a board.
use Rattle.std.proofs.Common.{◌≡◌, ℕ, ◌<◌, ◌≤◌, Bool, true, false, cond, eqb, ◌⊎◌, List, [], ◌∷◌, map, length, get_or, Some, None, Option, sym, refl, ap, ◌∙◌, subst, inl, inr, ⊎_elim, arith}
use Rattle.std.specs.List.{AllByRecursion}
use Rattle.std.proofs.lemmas.List.Sorted.{sum_by-IsPermutation}
use Rattle.std.proofs.lemmas.Bool.{cases_eq, eq-eqb, ne_eqb}
use Rattle.duty.specs.declared.records.Record.{Record}
use Rattle.duty.specs.declared.timings.Timing.{Timing}
use Rattle.heap.specs.Sorted.{sorted}
use Rattle.heap.proofs.Sorting.{shuffled_sorted, sorted_ascends}
use Rattle.boards.specs.Lists.{on_board, no_record}
use Rattle.placing.specs.declared.lined.Lined.{Lined}
use Rattle.placing.specs.FirstFit.{seat, takes, fit, placed, cleared}
use Rattle.placing.specs.Laws.{Filling, done, seated, stuck, FirstFit}
use Rattle.placing.specs.Order.{sooner, lined}
use Rattle.placing.specs.Outcome.{first_fit}
use Rattle.placing.proofs.Clearing.{length_cleared}
use Rattle.placing.proofs.Counting.{times, times_first, times_other, times_once, cleared_board, cleared_list, cleared_twice, seat_board, seat_other, seat_duties, seat_lists}
use Rattle.placing.proofs.Lowest.{Found, nowhere, somewhere, LowestIs, NonePass, lowest_found}
use Rattle.placing.proofs.Seating.{length_seat}
use Rattle.placing.proofs.Taking.{total, chain, indices_below}

module _ (passes : List Timing → ℕ → Bool) (boards cycle n : ℕ) where
  -- board b has no duty, or its list passes
  abbrev Fine : List Record → ℕ → Type 0
  Fine rs b = (on_board b rs ≡ []) ⊎ (passes (on_board b rs) cycle ≡ true)

  -- the record at k waits once among the entries and has no board, or waits no more and has one
  abbrev Settled : List Record → List Lined → ℕ → Type 0
  Settled rs es k =
      ((times k es ≡ 1) × ((get_or rs k no_record).board ≡ 0))
      ⊎ ((times k es ≡ 0) × (1 ≤ (get_or rs k no_record).board) × ((get_or rs k no_record).board ≤ boards))

  record Waiting (rs : List Record) (es : List Lined) : Type 0 where
    long : length rs ≡ n
    each : (k : ℕ) → k < n → Settled rs es k
    lists : (b : ℕ) → 1 ≤ b → b ≤ boards → Fine rs b

  record Good (rs : List Record) (is : List ℕ) (p : List Record × Option ℕ) : Type 0 where
    filling : Filling passes boards cycle rs is p.0 p.1
    duties : cleared p.0 ≡ cleared rs
    fine : (b : ℕ) → 1 ≤ b → b ≤ boards → Fine p.0 b
    seats : p.1 ≡ None → (k : ℕ) → k < n → (1 ≤ (get_or p.0 k no_record).board) × ((get_or p.0 k no_record).board ≤ boards)

  -- the first of those that wait has no board yet, and waits no second time
  module _ (rs : List Record) (e : Lined) (es : List Lined) (w : Waiting rs (e ∷ es)) (in' : e.index < n) where
    first_waits : ((get_or rs e.index no_record).board ≡ 0) × (times e.index es ≡ 0)
    first_waits =
        let once = times_first e.index e es refl in
        ⊎_elim (λ a. (a.1, omega (arith, once, a.0))) (λ a. absurd (omega (arith, once, a.0))) (w.each e.index in')

    -- it fits no board
    ends : NonePass (takes passes cycle rs e.index) 1 boards → Good rs (e.index ∷ map (λ x. x.index) es) (seat rs e.index 0, Some e.index)
    ends none = record {
      filling = stuck rs (map (λ x. x.index) es) e.index (λ c l h. none.none c l (omega arith));
      duties = seat_duties rs e.index 0;
      fine = λ b l h.
          subst (λ ds. (ds ≡ []) ⊎ (passes ds cycle ≡ true)) (sym (seat_lists rs e.index 0 b (λ q. omega (arith, q, first_waits.0)) (λ q. omega arith))) (w.lists b l h);
      seats = λ q k h. absurd (let z : ◌≡◌ {A = ℕ} 0 1 = cc in omega arith);
    }

    module _ (m : ℕ) (low : LowestIs (takes passes cycle rs e.index) 1 boards m) where
      settled : (k : ℕ) → k < n → Settled (seat rs e.index m) es k
      settled k h =
          ⊎_elim
          (λ same.
          let own = seat_board rs e.index m (omega (arith, w.long)) in
          let at_k : (get_or (seat rs e.index m) k no_record).board ≡ m = ap (λ (j : ℕ). (get_or (seat rs e.index m) j no_record).board) same ∙ own in
          inr (ap (λ (j : ℕ). times j es) same ∙ first_waits.1, omega (arith, at_k, low.from), omega (arith, at_k, low.to)))
          (λ other.
          let kept = ap (λ (r : Record). r.board) (seat_other rs e.index k m other) in
          let less = times_other k e es (λ q. other (sym q)) in
          ⊎_elim
          (λ a. inl (omega (arith, less, a.0), kept ∙ a.1))
          (λ a. inr (omega (arith, less, a.0), omega (arith, kept, a.1), omega (arith, kept, a.2)))
          (w.each k h))
          (cases_eq k e.index)

      lists_on : (b : ℕ) → 1 ≤ b → b ≤ boards → Fine (seat rs e.index m) b
      lists_on b l h =
          ⊎_elim
          (λ same. inr (ap (λ (c : ℕ). passes (on_board c (seat rs e.index m)) cycle) same ∙ low.passes))
          (λ other. subst (λ ds. (ds ≡ []) ⊎ (passes ds cycle ≡ true)) (sym (seat_lists rs e.index m b (λ q. omega (arith, q, first_waits.0)) (λ q. other (sym q)))) (w.lists b l h))
          (cases_eq b m)

      on : Waiting (seat rs e.index m) es
      on = record { long = length_seat rs e.index m ∙ w.long; each = settled; lists = lists_on }

      goes : (p : List Record × Option ℕ) → Good (seat rs e.index m) (map (λ x. x.index) es) p → Good rs (e.index ∷ map (λ x. x.index) es) p
      goes p g = record {
        filling = seated rs p.0 (map (λ x. x.index) es) p.1 e.index m low.from (omega (arith, low.to)) low.passes (λ c a b. low.below c a b) g.filling;
        duties = g.duties ∙ seat_duties rs e.index m;
        fine = g.fine;
        seats = g.seats;
      }

  step : (rs : List Record) (e : Lined) (es : List Lined) (m : ℕ) → fit passes boards cycle rs e.index ≡ m → Found (takes passes cycle rs e.index) 1 boards m → Waiting rs (e ∷ es) → e.index < n → (Waiting (seat rs e.index m) es → Good (seat rs e.index m) (map (λ x. x.index) es) (placed passes boards cycle (seat rs e.index m) (map (λ x. x.index) es))) → Good rs (e.index ∷ map (λ x. x.index) es) (placed passes boards cycle rs (e.index ∷ map (λ x. x.index) es))
  step rs e es m is (nowhere z none) w in' rest =
      let i = e.index in
      let no_fit : eqb (fit passes boards cycle rs i) 0 ≡ true = eq-eqb _ 0 (is ∙ z) in
      subst (Good rs (i ∷ map (λ x. x.index) es))
      (sym (ap (λ t. cond t (seat rs i 0, Some i) (placed passes boards cycle (seat rs i (fit passes boards cycle rs i)) (map (λ x. x.index) es))) no_fit))
      (ends rs e es w in' none)
  step rs e es m is (somewhere low) w in' rest =
      let i = e.index in
      let positive = low.from in
      let fits : eqb (fit passes boards cycle rs i) 0 ≡ false = ne_eqb _ 0 (λ q. omega (arith, is, q, positive)) in
      subst (Good rs (i ∷ map (λ x. x.index) es))
      (sym (ap (λ t. cond t (seat rs i 0, Some i) (placed passes boards cycle (seat rs i (fit passes boards cycle rs i)) (map (λ x. x.index) es))) fits
      ∙ ap (λ (b : ℕ). placed passes boards cycle (seat rs i b) (map (λ x. x.index) es)) is))
      (goes rs e es w in' m low _ (rest (on rs e es w in' m low)))

  good : (es : List Lined) (rs : List Record) → Waiting rs es → AllByRecursion (λ e. e.index < n) es → Good rs (map (λ x. x.index) es) (placed passes boards cycle rs (map (λ x. x.index) es))
  good [] rs w h = record {
    filling = done rs;
    duties = refl;
    fine = w.lists;
    seats = λ _ k l. ⊎_elim (λ a. absurd (omega (arith, a.0))) (λ a. (a.1, a.2)) (w.each k l);
  }
  good (e ∷ es) rs w h =
      step rs e es (fit passes boards cycle rs e.index) refl (lowest_found (takes passes cycle rs e.index) 1 boards) w h.0 (λ v. good es _ v h.1)

module _ (passes : List Timing → ℕ → Bool) (boards cycle : ℕ) (rs : List Record) where
  -- at the start every duty waits
  start : Waiting passes boards cycle (length rs) (cleared rs) (sorted sooner (lined 0 (cleared rs)))
  start = record {
    long = length_cleared rs;
    each = λ k h.
        inl (
          sum_by-IsPermutation (λ (e : Lined). cond (eqb e.index k) 1 0) (lined 0 (cleared rs)) _ (shuffled_sorted sooner (lined 0 (cleared rs))) ∙ times_once k 0 (cleared rs) (omega arith) (omega (arith, length_cleared rs)),
          cleared_board rs k,
        );
    lists = λ b l h. inl (cleared_list rs b l);
  }

  pub first_fit_law : FirstFit passes boards cycle rs (first_fit passes boards cycle rs).0 (first_fit passes boards cycle rs).1
  first_fit_law =
      let everyone = shuffled_sorted sooner (lined 0 (cleared rs)) in
      let below = indices_below (cleared rs) (length rs) (sorted sooner (lined 0 (cleared rs))) (length_cleared rs) everyone in
      let g = good passes boards cycle (length rs) (sorted sooner (lined 0 (cleared rs))) (cleared rs) start below in
      record {
        queue = sorted sooner (lined 0 (cleared rs));
        everyone = everyone;
        by_deadline = sorted_ascends sooner total chain (lined 0 (cleared rs));
        filling = g.filling;
        same_duties = g.duties ∙ cleared_twice rs;
        none_overfilled = g.fine;
        all_on_boards = g.seats;
      }

  pub first_fit_long : length (first_fit passes boards cycle rs).0 ≡ length rs
  first_fit_long =
      sym (length_cleared (first_fit passes boards cycle rs).0) ∙ ap length first_fit_law.same_duties ∙ length_cleared rs
