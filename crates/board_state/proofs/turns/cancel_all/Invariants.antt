use Rattle.std.proofs.Common.{◌≡◌, ◌++◌, map, take, drop}
use Rattle.model.specs.declared.calls.Call.TheVariants.{GeneralCancel}
use Rattle.model.specs.Steps.{after}
use Rattle.board_state.specs.Views.{seen}
use Rattle.board_state.proofs.turns.cancel_all.Given as goal

abbrev pub invariant-loop-place : goal.invariant-loop-place
invariant-loop-place l =
    map seen (take l.place-index l.places) ++ map (after l.clock.ticks GeneralCancel) (map seen (drop l.place-index l.places)) ≡ map (after l.clock.ticks GeneralCancel) (map seen l.initial.places)
