use Rattle.std.proofs.Common.{◌≡◌, ◌<◌, ◌≤◌, List, [], ◌∷◌, ◌++◌, map, length, take, sym, ap, ◌∙◌, arith, length-take, length-append}
use lib.ListN.{length-map}
use Rattle.std.proofs.lemmas.List.{take_all, take_more_set, take-append-le, map_push}
use Rattle.queue.specs.Places.{places as width}
use Rattle.model.specs.Boards.{Place as Seen, fresh}
use Rattle.board_state.specs.Views.{seen}
use Rattle.board_state.proofs.states.State.seat.Goals as goal

pub returns-then-self-lt-PLACES : goal.returns-then-self-lt-PLACES
returns-then-self-lt-PLACES c =
    let s = c.args.self.now in
    let y = c.idle_place.result in
    let xs = map seen (take s.count s.places) in
    let new = fresh c.args.duty.timing ∷ [] in
    let room : s.count < length s.places = omega (arith, s.wide, c.if-self-lt-PLACES.true) in
    let few : length (xs ++ new) ≤ width = omega (arith, length-append xs new, length-map (take s.count s.places) seen, length-take s.count s.places, c.if-self-lt-PLACES.true) in
    ap (λ (l : List Seen). record { clock = s.clock.ticks; places = l })
    (ap (map seen) (take_more_set s.places s.count y room)
    ∙ map_push seen (take s.count s.places) y
    ∙ ap (λ (z : Seen). xs ++ z ∷ []) (ap seen c.idle_place.ensures)
    ∙ sym (take_all width (xs ++ new) few))

pub returns-else-self-lt-PLACES : goal.returns-else-self-lt-PLACES
returns-else-self-lt-PLACES c =
    let s = c.args.self.now in
    let xs = map seen (take s.count s.places) in
    let new = fresh c.args.duty.timing ∷ [] in
    let full : length xs ≡ width = omega (arith, length-map (take s.count s.places) seen, length-take s.count s.places, s.wide, s.few, c.if-self-lt-PLACES.false) in
    ap (λ (l : List Seen). record { clock = s.clock.ticks; places = l }) (sym (take-append-le width xs new (omega arith) ∙ take_all width xs (omega arith)))
