use Rattle.std.proofs.Common.{map, take, set, ap, ◌∙◌, length-set}
use Rattle.std.proofs.lemmas.List.{map-set}
use Rattle.gauge.specs.Each.{each}
use Rattle.model.specs.Boards.{Place as Seen}
use Rattle.board_state.specs.Past.{past}
use Rattle.board_state.specs.Views.{seen}
use Rattle.board_state.proofs.Seeing.{each_set, take_set_in}
use Rattle.board_state.proofs.Lasting.{stays_past}
use Rattle.board_state.proofs.states.State.turn.Goals as goal

pub invariant_of-self : goal.invariant_of-self
invariant_of-self c =
    let s = c.args.self.now in
    let y = c.turned-next.result in
    let fresh = stays_past s.clock.ticks c.args.call c.args.place.now y c.turned-next.ensures c.requires in
    let arrived = ap (each (past s.clock.ticks)) (take_set_in s.count s.places c.args.p y) ∙ each_set (past s.clock.ticks) (take s.count s.places) c.args.p y fresh s.arrived in
    record { wide = length-set s.places c.args.p y ∙ s.wide; few = s.few; arrived = arrived }

pub returns-then-p-lt-PLACES-clause-places : goal.returns-then-p-lt-PLACES-clause-places
returns-then-p-lt-PLACES-clause-places c =
    let s = c.args.self.now in
    let y = c.turned-next.result in
    let xs = take s.count s.places in
    ap (map seen) (take_set_in s.count s.places c.args.p y) ∙ map-set seen xs c.args.p y ∙ ap (λ (z : Seen). set (map seen xs) c.args.p z) c.turned-next.ensures
