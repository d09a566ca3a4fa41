-- A chart is folded.
use Rattle.std.specs.Prelude.{ℕ}

-- how many ticks stand side by side
abbrev pub fold : ℕ
fold = 30
