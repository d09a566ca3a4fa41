-- Last arrivals lie in the past, and stay there.
use Rattle.std.proofs.Common.{◌≡◌, ℕ, ◌+◌, true, List, [], ◌∷◌, map, Some, None, Option, refl, ap, ◌∙◌, arith}
use Rattle.std.proofs.lemmas.Bool.{and_from, le-leb, leb-true}
use Rattle.gauge.specs.Each.{each}
use Rattle.gauge.specs.Eaches.{each_weaker}
use Rattle.model.specs.declared.calls.Call.{Call}
use Rattle.model.specs.declared.calls.Call.TheVariants.{Arrive as arrive, Tick as tick, Finish as finish, GeneralCancel as cancel}
use Rattle.model.specs.Boards.{Place as Seen}
use Rattle.model.specs.Steps.{last_after, after}
use Rattle.board_state.specs.declared.places.Place.{Place}
use Rattle.board_state.specs.Past.{last_past, past}
use Rattle.board_state.specs.Views.{seen}

last_stays_past : (c : ℕ) (last : Option ℕ) (call : Call) → last_past c last ≡ true → last_past c (last_after c last call) ≡ true
last_stays_past c last (arrive p) h = le-leb c c (omega arith)
last_stays_past c last tick h = h
last_stays_past c last (finish p) h = h
last_stays_past c last cancel h = refl

-- a place that a call turned has its last arrival in the past still
pub stays_past : (c : ℕ) (call : Call) (x y : Place) → seen y ≡ after c call (seen x) → past c x ≡ true → past c y ≡ true
stays_past c call x y e h = ap (λ (z : Seen). last_past c z.last) e ∙ last_stays_past c x.last call h

last_past_next : (c : ℕ) (last : Option ℕ) → last_past c last ≡ true → last_past (c + 1) last ≡ true
last_past_next c None h = refl
last_past_next c (Some a) h = le-leb a (c + 1) (omega (arith, leb-true a c h))

-- and after a tick
pub past_next : (c : ℕ) (xs : List Place) → each (past c) xs ≡ true → each (past (c + 1)) xs ≡ true
past_next c xs h = each_weaker (past c) (past (c + 1)) (λ x. last_past_next c x.last) xs h

-- after a General Cancel there are none
pub none_past : (c : ℕ) (xs ys : List Place) → map seen ys ≡ map (after c cancel) (map seen xs) → each (past c) ys ≡ true
none_past c xs [] e = refl
none_past c [] (y ∷ ys) e = let z : ◌≡◌ {A = ℕ} 0 1 = cc in absurd (omega arith)
none_past c (x ∷ xs) (y ∷ ys) e =
    let first : seen y ≡ after c cancel (seen x) = cc in
    let rest : map seen ys ≡ map (after c cancel) (map seen xs) = cc in
    and_from (past c y) (each (past c) ys) (ap (λ (z : Seen). last_past c z.last) first) (none_past c xs ys rest)
