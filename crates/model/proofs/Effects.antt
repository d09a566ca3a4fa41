-- What a call does to one place, told by the call and its answer.
use Rattle.std.proofs.Common.{◌≡◌, ℕ, ◌+◌, true, false, eqb, ltb, set, Some, None, Option, sym, refl, ap, ◌∙◌, subst, ⊎_elim, arith}
use Rattle.std.specs.List.{slice_get}
use Rattle.std.proofs.lemmas.Bool.{cond_both, cases_eq, eq-eqb, ne_eqb, and_right}
use Rattle.queue.specs.First.{earliest}
use Rattle.model.specs.declared.jobs.Job.{Job}
use Rattle.model.specs.declared.calls.Call.{Call}
use Rattle.model.specs.declared.calls.Call.TheVariants.{Arrive as arrive, Tick as tick, Finish as finish, GeneralCancel as cancel}
use Rattle.model.specs.declared.calls.Answer.{Answer}
use Rattle.model.specs.declared.calls.Answer.TheVariants.{Granted as granted, Finished as finished, Ran as ran}
use Rattle.model.specs.declared.calls.Event.{Event}
use Rattle.model.specs.Boards.{Place, Board, dues}
use Rattle.model.specs.Steps.{clock_limit, too_soon, after, Outcome, accepting, arriving, finishing, finishing_job, ticking, step}
use Rattle.model.specs.Events.{ticks_in, gets, arrives, ends_job, is_cancel}
use Rattle.model.proofs.Lists.{some_same, nth_set_same, nth_set_other, nth_map}
use Rattle.model.proofs.Firsts.{Leads, Told, told}

-- at the clock c, the event e turns the place p from x into y
pub data Effect (p c : ℕ) (e : Event) (x y : Place) : Type 0 where
  begins : y ≡ after c (arrive p) x → arrives p e ≡ true → ticks_in e ≡ 0 → gets p e ≡ 0 → too_soon c x.duty.spacing x.last ≡ false → Effect p c e x y
  stays : y ≡ x → arrives p e ≡ false → gets p e ≡ 0 → Effect p c e x y
  works : (j : Job) → x.job ≡ Some j → y ≡ after c tick x → arrives p e ≡ false → ticks_in e ≡ 1 → gets p e ≡ 1 → Effect p c e x y
  ends : y ≡ after c (finish p) x → arrives p e ≡ false → ticks_in e ≡ 0 → gets p e ≡ 0 → ends_job p e ≡ true → Effect p c e x y
  clears : y ≡ after c cancel x → arrives p e ≡ false → ticks_in e ≡ 0 → gets p e ≡ 0 → is_cancel e.call ≡ true → ends_job p e ≡ true → Effect p c e x y

-- after the call the place p is `later`, and the clock has gone on by the call's ticks
pub record Moved (p c : ℕ) (e : Event) (x : Place) (b : Board) : Type 0 where
  pub later : Place
  pub there : slice_get b.places p ≡ Some later
  pub how : Effect p c e x later
  pub clock_is : b.clock ≡ c + ticks_in e

abbrev Moves : ℕ → ℕ → Call → Place → Outcome → Type 0
Moves p c call x o = Moved p c (record { call = call; answer = o.answer }) x o.board

module _ (b : Board) (p : ℕ) (x : Place) (n : slice_get b.places p ≡ Some x) where
  -- the place p stays where another one changes
  elsewhere : (q : ℕ) (y : Place) → (q ≡ p → ⊥) → slice_get (set b.places q y) p ≡ Some x
  elsewhere q y other = nth_set_other b.places q p y other ∙ n

  -- the place that a call found, where it is p
  same_place : (q : ℕ) (y : Place) → slice_get b.places q ≡ Some y → q ≡ p → y ≡ x
  same_place q y m same = some_same (sym m ∙ ap (slice_get b.places) same ∙ n)

  arrived : (q : ℕ) (y : Place) → slice_get b.places q ≡ Some y → too_soon b.clock y.duty.spacing y.last ≡ false → Moves p b.clock (arrive q) x (accepting b (arrive q) q y (granted (b.clock + y.duty.deadline) y.duty.cost))
  arrived q y m soon =
      ⊎_elim
      (λ (same : q ≡ p).
      let yx = same_place q y m same in
      record {
        later = after b.clock (arrive p) y;
        there = rw same (nth_set_same b.places p x (after b.clock (arrive p) y) n);
        how = begins (ap (after b.clock (arrive p)) yx) (rw (eq-eqb q p same)) refl refl (subst (λ (z : Place). too_soon b.clock z.duty.spacing z.last ≡ false) yx soon);
        clock_is = omega arith;
      })
      (λ other. record { later = x; there = elsewhere q _ other; how = stays refl (rw (ne_eqb q p other)) refl; clock_is = omega arith })
      (cases_eq q p)

  worked : (q : ℕ) (f : Leads b.places q) → Moves p b.clock tick x (record { board = record { clock = b.clock + 1; places = set b.places q (after b.clock tick f.place) }; answer = ran (Some q) })
  worked q f =
      ⊎_elim
      (λ (same : q ≡ p).
      let yx = same_place q f.place f.there same in
      record {
        later = after b.clock tick f.place;
        there = rw same (nth_set_same b.places p x (after b.clock tick f.place) n);
        how = works f.job (ap (λ (z : Place). z.job) (sym yx) ∙ f.waits) (ap (after b.clock tick) yx) refl refl (rw (eq-eqb q p same));
        clock_is = refl;
      })
      (λ other. record { later = x; there = elsewhere q _ other; how = stays refl refl (rw (ne_eqb q p other)); clock_is = refl })
      (cases_eq q p)

  finished_at : (q : ℕ) (y : Place) (u : ℕ) → slice_get b.places q ≡ Some y → Moves p b.clock (finish q) x (accepting b (finish q) q y (finished u))
  finished_at q y u m =
      ⊎_elim
      (λ (same : q ≡ p).
      let yx = same_place q y m same in
      record {
        later = after b.clock (finish p) y;
        there = rw same (nth_set_same b.places p x (after b.clock (finish p) y) n);
        how = ends (ap (after b.clock (finish p)) yx) refl refl refl (rw (eq-eqb q p same));
        clock_is = omega arith;
      })
      (λ other. record { later = x; there = elsewhere q _ other; how = stays refl refl refl; clock_is = omega arith })
      (cases_eq q p)

  moves : (call : Call) → Moves p b.clock call x (step b call)
  moves (arrive q) = go (slice_get b.places q) refl
    where
      go : (o : Option Place) → slice_get b.places q ≡ o → Moves p b.clock (arrive q) x (arriving b q o)
      go None m = record { later = x; there = n; how = stays refl (and_right (eqb q p) false refl) refl; clock_is = omega arith }
      go (Some y) m =
          cond_both (too_soon b.clock y.duty.spacing y.last) _ _ (Moves p b.clock (arrive q) x)
          (λ t. record { later = x; there = n; how = stays refl (and_right (eqb q p) false refl) refl; clock_is = omega arith })
          (λ t. arrived q y m t)
  moves tick =
      cond_both (ltb b.clock clock_limit) _ _ (Moves p b.clock tick x)
      (λ t. go (earliest (dues b.places)) (told b.places))
      (λ t. record { later = x; there = n; how = stays refl refl refl; clock_is = omega arith })
    where
      at : (q : ℕ) → Leads b.places q → Moves p b.clock tick x (ticking b (Some q))
      at q f = rw f.there (worked q f)

      go : (o : Option ℕ) → Told b.places o → Moves p b.clock tick x (ticking b o)
      go None h = record { later = x; there = n; how = stays refl refl refl; clock_is = refl }
      go (Some q) h = at q h
  moves (finish q) = go (slice_get b.places q) refl
    where
      at : (y : Place) → slice_get b.places q ≡ Some y → (j : Option Job) → Moves p b.clock (finish q) x (finishing_job b q y j)
      at y m None = record { later = x; there = n; how = stays refl refl refl; clock_is = omega arith }
      at y m (Some j) = finished_at q y j.units m

      go : (o : Option Place) → slice_get b.places q ≡ o → Moves p b.clock (finish q) x (finishing b q o)
      go None m = record { later = x; there = n; how = stays refl refl refl; clock_is = omega arith }
      go (Some y) m = at y m y.job
  moves cancel = record {
    later = after b.clock cancel x;
    there = nth_map (after b.clock cancel) b.places p x n;
    how = clears refl refl refl refl refl refl;
    clock_is = omega arith;
  }

  -- the same of an event whose answer is the board's
  pub moved : (e : Event) → e.answer ≡ (step b e.call).answer → Moved p b.clock e x (step b e.call).board
  moved e a =
      subst (λ (z : Answer). Moved p b.clock (record { call = e.call; answer = z }) x (step b e.call).board) (sym a) (moves e.call)
