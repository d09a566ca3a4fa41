-- Where the fields of a line stand, and the range of each number. Columns count from 1.
use Rattle.std.specs.Prelude.{ℕ, ◌-◌, List, take, drop}
use Rattle.duty.specs.Limits.{longest, most_boards, most_duties}
use Rattle.columns.specs.declared.fields.Field.{Field}

-- columns first to last of a line
abbrev pub columns : ℕ → ℕ → List ℕ → List ℕ
columns first last bs = take (last - (first - 1)) (drop (first - 1) bs)

-- how many columns a field has
abbrev pub width : Field → ℕ
width f = f.last - (f.first - 1)

-- a header
abbrev pub header_width : ℕ
header_width = 20

abbrev pub letter_column : ℕ
letter_column = 6

abbrev pub boards_field : Field
boards_field = record { first = 7; last = 9; least = 1; most = most_boards }

abbrev pub duties_field : Field
duties_field = record { first = 10; last = 12; least = 0; most = most_duties }

abbrev pub cycle_field : Field
cycle_field = record { first = 13; last = 20; least = 1; most = longest }

-- a duty's line
abbrev pub cost_field : Field
cost_field = record { first = 9; last = 16; least = 1; most = longest }

abbrev pub deadline_field : Field
deadline_field = record { first = 17; last = 24; least = 1; most = longest }

abbrev pub spacing_field : Field
spacing_field = record { first = 25; last = 32; least = 1; most = longest }

abbrev pub board_field : Field
board_field = record { first = 33; last = 35; least = 0; most = most_boards }
