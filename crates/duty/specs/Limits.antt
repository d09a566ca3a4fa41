-- The limits of a table.
use Rattle.std.specs.Prelude.{ℕ}

-- the most ticks of a cost, a deadline, a spacing or a cycle
abbrev pub longest : ℕ
longest = 1000000

-- the most boards of a rack
abbrev pub most_boards : ℕ
most_boards = 16

-- the most duties of a table
abbrev pub most_duties : ℕ
most_duties = 64

-- the bytes of a name
abbrev pub name_width : ℕ
name_width = 8
