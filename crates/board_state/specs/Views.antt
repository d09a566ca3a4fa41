-- Places of the code as places of the model: a duty is seen as its timing.
use Rattle.std.specs.Prelude.{None}
use Rattle.duty.specs.declared.duties.Duty.{Duty}
use Rattle.duty.specs.declared.timings.Timing.{Timing}
use Rattle.model.specs.Boards.{Place as Seen}
use Rattle.board_state.specs.declared.places.Place.{Place}

abbrev pub seen : Place → Seen
seen x = record { duty = x.duty.timing; last = x.last; job = x.job }

abbrev pub timing_of : Duty → Timing
timing_of d = d.timing

-- a place at which nothing has arrived yet
abbrev pub idle_place : Duty → Place
idle_place d = record { duty = d; last = None; job = None }
