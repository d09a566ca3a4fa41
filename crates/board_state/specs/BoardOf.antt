-- The board that a state stands for.
use Rattle.std.specs.Prelude.{[], ◌∷◌, ◌++◌, map, take}
use Rattle.duty.specs.declared.timings.Timing.{Timing}
use Rattle.queue.specs.Places.{places as width}
use Rattle.model.specs.Boards.{Board, fresh}
use Rattle.board_state.specs.declared.states.State.{State}
use Rattle.board_state.specs.Views.{seen}

abbrev pub board_of : State → Board
board_of s = record { clock = s.clock.ticks; places = map seen (take s.count s.places) }

-- a board with one duty more, at the next place; past 64 it is left out
abbrev pub seating : Board → Timing → Board
seating b d = record { clock = b.clock; places = take width (b.places ++ fresh d ∷ []) }
