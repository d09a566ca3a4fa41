-- Counting the duties of a board and the ticks of a run.
use Rattle.std.proofs.Common.{◌≡◌, ◌≢◌, ℕ, ◌+◌, ◌<◌, Bool, true, false, cond, ◌&&◌, ◌==◌, List, [], ◌∷◌, ◌++◌, length, get_or, take, count_by, sym, ap, ◌∙◌, refl, arith, length-append}
use Rattle.std.proofs.lemmas.List.{take_more}
use Rattle.std.proofs.lemmas.List.Recursion.{is_count_by}
use Rattle.std.proofs.lemmas.Bool.{cond-true, cond-false, eq-eqb, ne_eqb}
use Rattle.duty.specs.declared.records.Record.{Record}
use Rattle.duty.specs.declared.timings.Timing.{Timing}
use Rattle.boards.specs.Lists.{on_board}
use Rattle.boards.proofs.Collecting.{on_board_append}
use Rattle.model.specs.declared.calls.Event.{Event}
use Rattle.model.specs.Events.{clock, ticks_in, is_tick, accepted}

-- the duties of a board are its records, counted
one_more : (here : Bool) (t : Timing) (ts : List Timing) → length (cond here (t ∷ ts) ts) ≡ cond here (1 + length ts) (length ts)
one_more true t ts = omega arith
one_more false t ts = refl

pub on_board_counts : (b : ℕ) (rs : List Record) → length (on_board b rs) ≡ count_by (λ r. r.board == b) rs
on_board_counts b rs = is_count_by (λ (xs : List Record). length (on_board b xs)) (λ r. r.board == b) refl (λ r xs. one_more (r.board == b) r.timing (on_board b xs)) rs

-- one record more, which is on the board or not
module _ (b i : ℕ) (rs : List Record) (d : Record) (within : i < length rs) where
  on_board_more : length (on_board b (take (i + 1) rs)) ≡ length (on_board b (take i rs)) + cond ((get_or rs i d).board == b) 1 0
  on_board_more =
      let last = get_or rs i d in
      ap (λ (xs : List Record). length (on_board b xs)) (take_more rs i d within)
      ∙ ap length (on_board_append b (take i rs) (last ∷ []))
      ∙ length-append (on_board b (take i rs)) (on_board b (last ∷ []))
      ∙ ap (λ (n : ℕ). length (on_board b (take i rs)) + n) (one_more (last.board == b) last.timing [])

  pub one_on : (get_or rs i d).board ≡ b → length (on_board b (take (i + 1) rs)) ≡ length (on_board b (take i rs)) + 1
  one_on is = on_board_more ∙ ap (λ (n : ℕ). length (on_board b (take i rs)) + n) (cond-true _ 1 0 (eq-eqb _ _ is))

  pub none_on : ((get_or rs i d).board ≢ b) → length (on_board b (take (i + 1) rs)) ≡ length (on_board b (take i rs))
  none_on is = omega (arith, on_board_more, cond-false {A = ℕ} _ 1 0 (ne_eqb _ _ is))

-- the clock is the events that move it, counted
one_later : (moves : Bool) (n : ℕ) → cond moves 1 0 + n ≡ cond moves (1 + n) n
one_later true n = refl
one_later false n = omega arith

pub clock_counts : (es : List Event) → clock es ≡ count_by (λ e. is_tick e.call && accepted e.answer) es
clock_counts es = is_count_by clock (λ e. is_tick e.call && accepted e.answer) refl (λ e xs. one_later (is_tick e.call && accepted e.answer) (clock xs)) es

-- one event more
clock_push : (es : List Event) (e : Event) → clock (es ++ e ∷ []) ≡ clock es + ticks_in e
clock_push [] e = omega arith
clock_push (x ∷ es) e = omega (arith, clock_push es e)

pub clock_more : (es : List Event) (i : ℕ) (d : Event) → i < length es → clock (take (i + 1) es) ≡ clock (take i es) + ticks_in (get_or es i d)
clock_more es i d within = ap clock (take_more es i d within) ∙ clock_push (take i es) (get_or es i d)

-- so the clock goes on by one at a tick, and stays at any other event
pub at_tick : (es : List Event) (i n : ℕ) (d : Event) (t : Bool) → i < length es → n ≡ clock (take i es) → t ≡ (is_tick (get_or es i d).call && accepted (get_or es i d).answer) → t ≡ true → n + 1 ≡ clock (take (i + 1) es)
at_tick es i n d t within so_far here is =
    let one : ticks_in (get_or es i d) ≡ 1 = cond-true (is_tick (get_or es i d).call && accepted (get_or es i d).answer) 1 0 (sym here ∙ is) in
    omega (arith, clock_more es i d within)

pub at_other : (es : List Event) (i n : ℕ) (d : Event) (t : Bool) → i < length es → n ≡ clock (take i es) → t ≡ (is_tick (get_or es i d).call && accepted (get_or es i d).answer) → t ≡ false → n ≡ clock (take (i + 1) es)
at_other es i n d t within so_far here isnt =
    let none : ticks_in (get_or es i d) ≡ 0 = cond-false (is_tick (get_or es i d).call && accepted (get_or es i d).answer) 1 0 (sym here ∙ isnt) in
    omega (arith, clock_more es i d within)
