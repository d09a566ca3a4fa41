-- How many ticks a duty can get in a window.
use Rattle.std.proofs.Common.{◌≡◌, ℕ, ◌+◌, ◌-◌, ◌*◌, ◌/◌, ◌<◌, ◌≤◌, max, false, List, [], ◌∷◌, ◌++◌, Some, sym, refl, ap, ◌∙◌, subst, ⊎_elim, le_trans, mul-le-mul_left, le-div_iff_mul-le, div-mul-le_self, arith, None, Option}
use native.Mathlib.Nat.{div-eq_of_lt, div-eq-sub-div}
use Rattle.std.specs.List.{slice_get, AllByRecursion}
use Rattle.std.proofs.lemmas.Bool.{cases_lt, both_ways}
use Rattle.duty.specs.declared.timings.Timing.{Timing}
use Rattle.duty.specs.Demand.{demands}
use Rattle.gauge.specs.Fairness.{Timed}
use Rattle.model.specs.declared.jobs.Job.{Job}
use Rattle.model.specs.declared.calls.Event.{Event}
use Rattle.model.specs.Boards.{Place, Board, loaded}
use Rattle.model.specs.Steps.{step}
use Rattle.model.specs.Events.{ticks_in, clock, gets, got, is_cancel, Uncancelled}
use Rattle.model.specs.Promises.{TicksInAWindowAreBounded}
use Rattle.model.proofs.Lists.{nth_source}
use Rattle.model.proofs.Invariant.{next_after, next, Sound, Kept}
use Rattle.model.proofs.Keeping.{next_now, next_least, next_rises, pending, sound_at, not_overdue, kept_step, kept_loaded}
use Rattle.model.proofs.Effects.{Effect, begins, stays, works, ends, clears, moved}
use Rattle.model.proofs.Traces.{Answered, reached, answered_left, answered_right, kept_reached, still_loaded}
use Rattle.model.proofs.Deadlines.{left, left_served}

div_grows : (a b s : ℕ) → 0 < s → a ≤ b → a / s ≤ b / s
div_grows a b s pos h = (le-div_iff_mul-le {k = s} {x = a / s} {y = b} pos).1 (le_trans (div-mul-le_self a s) h)

-- how many arrivals, a spacing apart, come within n ticks at most
rounds : ℕ → ℕ → ℕ
rounds s n = (n + s - 1) / s

rounds_grow : (s m n : ℕ) → 0 < s → m ≤ n → rounds s m ≤ rounds s n
unfolding rounds
rounds_grow s m n pos h = div_grows (m + s - 1) (n + s - 1) s pos (omega arith)

rounds_next : (s n : ℕ) → 0 < s → 1 ≤ n → rounds s n ≡ rounds s (n - s) + 1
unfolding rounds
rounds_next s n pos h =
    div-eq-sub-div pos (omega arith)
    ∙ ⊎_elim
    (λ (low : n < s).
    let e : (n + s - 1 - s) / s ≡ 0 = div-eq_of_lt (omega arith) in
    let f : (n - s + s - 1) / s ≡ 0 = div-eq_of_lt (omega arith) in
    omega (arith, e, f))
    (λ (high : s ≤ n). ap (λ (k : ℕ). k / s + 1) (omega arith))
    (cases_lt n s)

-- what the place x can get before the clock reads `end`: what is left, and a cost for each arrival that can come
room : ℕ → ℕ → Place → ℕ
room c end x = left x.job + x.duty.cost * rounds x.duty.spacing (end - next c x)

some_spacing : (c : ℕ) (x : Place) → Sound c x → 0 < x.duty.spacing
some_spacing c x s = omega (arith, s.timed.positive, s.timed.feasible, s.timed.constrained)

-- as the clock goes on, fewer arrivals can come
room_falls : (c c' end : ℕ) (x : Place) → Sound c x → c ≤ c' → x.duty.cost * rounds x.duty.spacing (end - next c' x) ≤ x.duty.cost * rounds x.duty.spacing (end - next c x)
room_falls c c' end x s h =
    mul-le-mul_left x.duty.cost (rounds_grow x.duty.spacing (end - next c' x) (end - next c x) (some_spacing c x s) (omega (arith, next_rises c c' x.duty.spacing x.last h)))

gets_a_tick : (p c : ℕ) (e : Event) (x y : Place) → Effect p c e x y → gets p e ≤ ticks_in e
gets_a_tick p c e x y (begins q s t g soon) = omega arith
gets_a_tick p c e x y (stays q s g) = omega arith
gets_a_tick p c e x y (works j w q s t g) = omega arith
gets_a_tick p c e x y (ends q s t g f) = omega arith
gets_a_tick p c e x y (clears q s t g f h) = omega arith

-- a place gets at most the ticks that there are
got_within : (b : Board) (p : ℕ) (x : Place) → slice_get b.places p ≡ Some x → (es : List Event) → Answered b es → got p es ≤ clock es
got_within b p x n [] h = omega arith
got_within b p x n (e ∷ es) h =
    let m = moved b p x n e h.0 in
    omega (arith, gets_a_tick p b.clock e x m.later m.how, got_within (step b e.call).board p m.later m.there es h.1)

module _ (b : Board) (k : Kept b) (p : ℕ) (x : Place) (n : slice_get b.places p ≡ Some x) where
  room_step : (e : Event) → is_cancel e.call ≡ false → (c' : ℕ) → c' ≡ b.clock + ticks_in e → (y : Place) → Effect p b.clock e x y → (es : List Event) (end : ℕ) → end ≡ c' + clock es → got p es ≤ clock es → got p es ≤ room c' end y → got p (e ∷ es) ≤ room b.clock end x
  unfolding room
  room_step e f c' ck y (begins q s t g soon) es end en le ih =
      let c = b.clock in
      let d = x.duty in
      let pos = some_spacing c x (sound_at b k p x n) in
      let now = next_now c d.spacing x.last soon in
      let a : room c' end y ≡ d.cost + d.cost * rounds d.spacing (end - max c' (c + d.spacing)) = ap (room c' end) q in
      let a₁ : d.cost * rounds d.spacing (end - max c' (c + d.spacing)) ≡ d.cost * rounds d.spacing (end - c - d.spacing) = ap (λ (z : ℕ). d.cost * rounds d.spacing z) (omega arith) in
      let a₂ : d.cost * rounds d.spacing (end - next c x) ≡ d.cost * rounds d.spacing (end - c) = ap (λ (z : ℕ). d.cost * rounds d.spacing (end - z)) now in
      ⊎_elim
      (λ (no_ticks : clock es < 1). omega arith)
      (λ (some_ticks : 1 ≤ clock es).
      let r : d.cost * rounds d.spacing (end - c) ≡ d.cost * (rounds d.spacing (end - c - d.spacing) + 1) = ap (λ (z : ℕ). d.cost * z) (rounds_next d.spacing (end - c) pos (omega arith)) in
      omega arith)
      (cases_lt (clock es) 1)
  room_step e f c' ck y (stays q s g) es end en le ih =
      omega (arith, ap (room c' end) q, room_falls b.clock c' end x (sound_at b k p x n) (omega arith))
  room_step e f c' ck y (works j w q s t g) es end en le ih =
      omega (arith, ap (room c' end) q, left_served b k p x j n w, room_falls b.clock c' end x (sound_at b k p x n) (omega arith))
  room_step e f c' ck y (ends q s t g h) es end en le ih =
      omega (arith, ap (room c' end) q, room_falls b.clock c' end x (sound_at b k p x n) (omega arith))
  room_step e f c' ck y (clears q s t g c h) es end en le ih = absurd (both_ways (is_cancel e.call) f c)

  -- at the start of a window of w ticks there is room for the bound
  room_window : (w : ℕ) → 1 ≤ w → room b.clock (b.clock + w) x ≤ x.duty.cost * (1 + (w + x.duty.deadline - 2) / x.duty.spacing)
  unfolding room rounds
  room_window w h = go x.job refl
    where
      s : Sound b.clock x
      s = sound_at b k p x n

      go : (o : Option Job) → x.job ≡ o → room b.clock (b.clock + w) x ≤ x.duty.cost * (1 + (w + x.duty.deadline - 2) / x.duty.spacing)
      go None q =
          let pos = some_spacing b.clock x s in
          let least = next_least b.clock x.duty.spacing x.last in
          let some : 1 ≤ x.duty.deadline = omega (arith, s.timed.positive, s.timed.feasible) in
          let r = div_grows (b.clock + w - next b.clock x + x.duty.spacing - 1) (w + x.duty.spacing - 1) x.duty.spacing pos (omega (arith, least)) in
          let r₁ : (w + x.duty.spacing - 1) / x.duty.spacing ≡ (w + x.duty.spacing - 1 - x.duty.spacing) / x.duty.spacing + 1 = div-eq-sub-div pos (omega arith) in
          let r₂ = div_grows (w + x.duty.spacing - 1 - x.duty.spacing) (w + x.duty.deadline - 2) x.duty.spacing pos (omega arith) in
          let r₃ : (b.clock + w - next b.clock x + x.duty.spacing - 1) / x.duty.spacing ≤ 1 + (w + x.duty.deadline - 2) / x.duty.spacing = omega (arith, r, r₁, r₂) in
          omega (arith, ap left q, mul-le-mul_left x.duty.cost r₃)
      go (Some j) q =
          let a = pending b.clock x j s q in
          let pos = some_spacing b.clock x s in
          let early = not_overdue b k p x j n q in
          let at : next b.clock x ≡ max b.clock (a.since + x.duty.spacing) = ap (next_after b.clock x.duty.spacing) a.was in
          let r : (b.clock + w - next b.clock x + x.duty.spacing - 1) / x.duty.spacing ≤ (w + x.duty.deadline - 2) / x.duty.spacing =
          ⊎_elim
          (λ (in_time : next b.clock x < b.clock + w).
          div_grows (b.clock + w - next b.clock x + x.duty.spacing - 1) (w + x.duty.deadline - 2) x.duty.spacing pos (omega (arith, at, a.due_is, early)))
          (λ (too_late : b.clock + w ≤ next b.clock x).
          let z : (b.clock + w - next b.clock x + x.duty.spacing - 1) / x.duty.spacing ≡ 0 = div-eq_of_lt (omega arith) in
          omega (arith, z))
          (cases_lt (next b.clock x) (b.clock + w)) in
          omega (arith, ap left q, a.not_more, mul-le-mul_left x.duty.cost r)

got_in_room : (b : Board) → Kept b → (p : ℕ) (x : Place) → slice_get b.places p ≡ Some x → (es : List Event) → Answered b es → Uncancelled es → (end : ℕ) → end ≡ b.clock + clock es → got p es ≤ room b.clock end x
got_in_room b k p x n [] h u end en = omega arith
got_in_room b k p x n (e ∷ es) h u end en =
    let m = moved b p x n e h.0 in
    let b' = (step b e.call).board in
    let en' : end ≡ b'.clock + clock es = omega (arith, m.clock_is) in
    room_step b k p x n e u.0 b'.clock m.clock_is m.later m.how es end en'
    (got_within b' p m.later m.there es h.1)
    (got_in_room b' (kept_step b k e.call) p m.later m.there es h.1 u.1 end en')

pub windows : (ds : List Timing) → AllByRecursion Timed ds → ((t : ℕ) → demands ds t ≤ t) → (events : List Event) → Answered (loaded ds) events → TicksInAWindowAreBounded ds events
windows ds timed bounded events answered before window after p d cut there quiet some_ticks =
    let all = subst (Answered (loaded ds)) cut answered in
    let b = reached (loaded ds) before in
    let k = kept_reached (loaded ds) (kept_loaded ds timed bounded) before in
    let r = answered_left b window after (answered_right (loaded ds) before (window ++ after) all) in
    let f = nth_source (λ (x : Place). x.duty) b.places p d (subst (λ (l : List Timing). slice_get l p ≡ Some d) (sym (still_loaded ds before)) there) in
    let x = f.origin in
    let q : got p window ≤ x.duty.cost * (1 + (clock window + x.duty.deadline - 2) / x.duty.spacing) =
    le_trans (got_in_room b k p x f.there window r quiet (b.clock + clock window) refl) (room_window b k p x f.there (clock window) some_ticks) in
    subst (λ (y : Timing). got p window ≤ y.cost * (1 + (clock window + y.deadline - 2) / y.spacing)) f.gives q
