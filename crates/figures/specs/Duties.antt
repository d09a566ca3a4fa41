-- The duties of the worked figures.
use Rattle.std.specs.Prelude.{ℕ}
use Rattle.duty.specs.declared.timings.Timing.{Timing}

-- cost, deadline, spacing
abbrev pub timing : ℕ → ℕ → ℕ → Timing
timing c d s = record { cost = c; deadline = d; spacing = s }

abbrev pub shades : Timing
shades = timing 4 12 24

abbrev pub great : Timing
great = timing 2 5 10

abbrev pub swell : Timing
swell = timing 3 6 12

abbrev pub pedal : Timing
pedal = timing 2 8 20

abbrev pub cycle : ℕ
cycle = 120
