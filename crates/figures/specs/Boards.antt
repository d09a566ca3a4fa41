-- Worked figures: what a board of three duties answers, call by call.
use Rattle.std.specs.Prelude.{◌≡◌, ℕ, List, [], ◌∷◌, ◌++◌, map, length, drop, replicate, Some, None}
use Rattle.fault.specs.declared.Cause.TheVariants.{TooSoon}
use Rattle.fault.specs.declared.Layer.TheVariants.{Call as in_call}
use Rattle.fault.specs.Faults.{fault}
use Rattle.fault.specs.Numbers.{number}
use Rattle.duty.specs.declared.records.Record.{Record}
use Rattle.duty.specs.declared.timings.Timing.{Timing}
use Rattle.gauge.specs.Slope.{slope_passed}
use Rattle.boards.specs.Lists.{on_board}
use Rattle.placing.specs.Outcome.{first_fit}
use Rattle.model.specs.declared.calls.Call.{Call}
use Rattle.model.specs.declared.calls.Call.TheVariants.{Arrive as arrive, Tick as tick, GeneralCancel as cancel}
use Rattle.model.specs.declared.calls.Answer.{Answer}
use Rattle.model.specs.declared.calls.Answer.TheVariants.{Refused as refused, Granted as granted, Ran as ran, Cancelled as cancelled}
use Rattle.model.specs.declared.calls.Event.{Event}
use Rattle.model.specs.Boards.{loaded}
use Rattle.model.specs.Events.{clock}
use Rattle.model.specs.Steps.{run}
use Rattle.figures.specs.Duties.{shades, great, swell, pedal, cycle}

-- a record of a duty, on no board yet; the name does not matter
abbrev pub row : Timing → Record
row d = record { name = record { bytes = [] }; timing = d; board = 0 }

-- the duties of a board, where first-fit under slope places shades, great, swell and pedal on two boards
abbrev pub placed_on : ℕ → List Timing
placed_on b = on_board b (first_fit slope_passed 2 cycle (map row (shades ∷ great ∷ swell ∷ pedal ∷ []))).0

-- the calls with their answers, on a board just loaded with shades, great and swell at the places 0, 1 and 2
abbrev pub events : List Call → List Event
events calls = run (loaded (shades ∷ great ∷ swell ∷ [])) calls

-- what is answered to `calls` where the calls `before` were made first
abbrev pub answers : List Call → List Call → List Answer
answers before calls = drop (length before) (map (λ (e : Event). e.answer) (events (before ++ calls)))

abbrev pub all_arrive : List Call
all_arrive = arrive 0 ∷ arrive 1 ∷ arrive 2 ∷ []

abbrev pub ticks : ℕ → List Call
ticks n = replicate n tick

-- an arrival before the spacing has passed
abbrev pub refused_too_soon : Answer
refused_too_soon = refused (fault TooSoon 0 0 in_call)

pub record BoardFigures : Type 0 where
  -- shades, great and swell are on board 1, in this order, and pedal is on board 2
  pub board_one : placed_on 1 ≡ shades ∷ great ∷ swell ∷ []
  pub board_two : placed_on 2 ≡ pedal ∷ []
  -- all three arrive at clock 0: shades is due at 12 and gets 4 ticks, great at 5 and 2, swell at 6 and 3
  pub all_at_zero : answers [] all_arrive ≡ granted 12 4 ∷ granted 5 2 ∷ granted 6 3 ∷ []
  -- of the ten ticks that follow great gets two, swell three and shades four, and none gets the last
  pub ten-ticks :
      answers all_arrive (ticks 10)
      ≡ map ran (Some 1 ∷ Some 1 ∷ Some 2 ∷ Some 2 ∷ Some 2 ∷ Some 0 ∷ Some 0 ∷ Some 0 ∷ Some 0 ∷ None ∷ [])
  -- after three, nine and ten of them the clock is at 3, 9 and 10
  pub clock_readings : map (λ n. clock (events (all_arrive ++ ticks n))) (3 ∷ 9 ∷ 10 ∷ []) ≡ 3 ∷ 9 ∷ 10 ∷ []
  -- before the tenth tick, at clock 9, great may not arrive again; after it, at clock 10, it may, and is due at 15 and gets 2 ticks
  pub great_again : answers (all_arrive ++ ticks 9) (arrive 1 ∷ tick ∷ arrive 1 ∷ []) ≡ refused_too_soon ∷ ran None ∷ granted 15 2 ∷ []
  -- that refusal is number 71
  pub too_soon_number : number TooSoon ≡ 71
  -- at clock 3 it is too soon as well; but after a General Cancel, which ends two jobs, great may arrive at clock 3, due at 8 with 2 ticks
  pub great_after_cancel : answers (all_arrive ++ ticks 3) (arrive 1 ∷ cancel ∷ arrive 1 ∷ []) ≡ refused_too_soon ∷ cancelled 2 ∷ granted 8 2 ∷ []
