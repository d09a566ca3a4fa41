-- Which rows are duty records.
use Rattle.std.specs.Prelude.{ℕ, ◌%◌, Bool, cond, ◌&&◌, List, Some, None, Option, ◌==◌, nat_le}
use Rattle.std.specs.Option.{option_map}
use Rattle.duty.specs.declared.timings.Timing.{Timing}
use Rattle.duty.specs.declared.records.Record.{Record}
use Rattle.duty.specs.declared.duties.Duty.{Duty}
use Rattle.duty.specs.Firsts.{first_failing}
use Rattle.duty.specs.Limits.{most_boards}
use Rattle.duty.specs.Names.{named}
use Rattle.duty.specs.Timely.{timely}

-- a name that a reader takes, a duty's timing, and a board of a rack or none
abbrev pub duty_record : Record → Bool
duty_record r = named r.name.bytes && (timely r.timing && nat_le r.board most_boards)

-- a duty record whose spacing divides the cycle
abbrev pub in_cycle : ℕ → Record → Bool
in_cycle cycle r = duty_record r && cycle % r.timing.spacing == 0

-- the timing of the duty that a row holds
abbrev pub duty_of : Record → Option Timing
duty_of r = cond (duty_record r) (Some r.timing) None

-- what is made of a row, by its timing
abbrev pub timings : Option Duty → Option Timing
timings o = option_map (λ d. d.timing) o

-- the place of the first row that is no duty record of the cycle
abbrev pub first_misfit : ℕ → List Record → Option ℕ
first_misfit cycle rs = first_failing (in_cycle cycle) rs
