-- A duty's line as the slope gauge keeps it, so that each instant costs no division.
use Rattle.std.specs.Prelude.{ℕ, ◌+◌, ◌-◌, ◌*◌, cond, nat_lt}
use Rattle.duty.specs.declared.timings.Timing.{Timing}
use Rattle.gauge.specs.declared.drawing.Line.{Line}
use Rattle.gauge.specs.Slope.{rate}

-- the line of a duty
abbrev pub line : ℕ → Timing → Line
line cycle d = record { deadline = d.deadline; step = d.cost * cycle; rate = rate cycle d }

-- its height at t, which is the duty's part of the sum
abbrev pub height_at : ℕ → Line → ℕ
height_at t l = cond (nat_lt t l.deadline) 0 (l.step + l.rate * (t - l.deadline))
