use Rattle.std.proofs.Common.{◌≡◌, ℕ, List, map, length, take, sym, ap, ◌∙◌}
use lib.ListN.{length-map}
use Rattle.std.proofs.lemmas.List.{take-map}
use Rattle.model.specs.declared.calls.Call.TheVariants.{GeneralCancel}
use Rattle.model.specs.Boards.{Place as Seen}
use Rattle.model.specs.Steps.{after}
use Rattle.board_state.specs.declared.places.Place.{Place}
use Rattle.board_state.specs.Views.{seen}
use Rattle.board_state.proofs.Lasting.{none_past}
use Rattle.board_state.proofs.states.State.general_cancel.Goals as goal

-- the first n of the places that were turned are those that were turned of the first n
first_turned : (f : Seen → Seen) (n : ℕ) (xs ys : List Place) → map seen ys ≡ map f (map seen xs) → map seen (take n ys) ≡ map f (map seen (take n xs))
first_turned f n xs ys e =
    sym (take-map seen n ys) ∙ ap (take n) e ∙ take-map f n (map seen xs) ∙ ap (map f) (take-map seen n xs)

pub invariant_of-self : goal.invariant_of-self
invariant_of-self c =
    let s = c.args.self.now in
    let ys = c.cancel_all.new.places in
    let e = first_turned (after s.clock.ticks GeneralCancel) s.count s.places ys c.cancel_all.ensures in
    let long : length (map seen ys) ≡ length (map (after s.clock.ticks GeneralCancel) (map seen s.places)) = ap length c.cancel_all.ensures in
    let wide : length ys ≡ length s.places = sym (length-map ys seen) ∙ long ∙ length-map (map seen s.places) (after s.clock.ticks GeneralCancel) ∙ length-map s.places seen in
    record { wide = wide ∙ s.wide; few = s.few; arrived = none_past s.clock.ticks (take s.count s.places) (take s.count ys) e }

pub returns-clause-board : goal.returns-clause-board
returns-clause-board c =
    let s = c.args.self.now in
    ap (λ (l : List Seen). record { clock = s.clock.ticks; places = l }) (first_turned (after s.clock.ticks GeneralCancel) s.count s.places c.cancel_all.new.places c.cancel_all.ensures)
