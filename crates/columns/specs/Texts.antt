-- The one text of a table or plan.
use Rattle.std.specs.Prelude.{◌≡◌, ℕ, ◌+◌, ◌*◌, true, List, [], ◌∷◌, ◌++◌, length}
use Rattle.std.specs.List.{flat_map, AllByRecursion}
use Rattle.duty.specs.declared.records.Record.{Record}
use Rattle.duty.specs.Heads.{Head, head_limits}
use Rattle.duty.specs.Letters.{letter_byte}
use Rattle.duty.specs.Limits.{most_duties, name_width}
use Rattle.duty.specs.Records.{in_cycle}
use Rattle.columns.specs.declared.forms.Form.{Form}
use Rattle.columns.specs.declared.forms.Form.TheVariants.{Table, Plan}
use Rattle.columns.specs.Forms.{word, line_width}
use Rattle.columns.specs.Layout.{width, header_width, boards_field, duties_field, cycle_field, cost_field, deadline_field, spacing_field, board_field}
use Rattle.columns.specs.Lines.{newline}
use Rattle.columns.specs.Numerals.{justified}
use Rattle.columns.specs.Tables.{Sheet}

-- a header's line, with its end byte
abbrev pub header_text : Form → Head → List ℕ
header_text form h =
    word form ++ ((letter_byte h.letter ∷ []) ++ (justified (width boards_field) h.boards ++ (justified (width duties_field) h.duties ++ (justified (width cycle_field) h.cycle ++ newline ∷ []))))

-- the board's columns in a plan line; a table line has none
abbrev pub board_text : Form → Record → List ℕ
board_text Table r = []
board_text Plan r = justified (width board_field) r.board

-- a duty's line, with its end byte
abbrev pub line_text : Form → Record → List ℕ
line_text form r =
    r.name.bytes ++ (justified (width cost_field) r.timing.cost ++ (justified (width deadline_field) r.timing.deadline ++ (justified (width spacing_field) r.timing.spacing ++ (board_text form r ++ newline ∷ []))))

-- the whole text
abbrev pub text : Form → Sheet → List ℕ
text form t = header_text form t.head ++ flat_map (line_text form) t.rows

-- how long the text with so many duties is
abbrev pub text_length : Form → ℕ → ℕ
text_length form n = header_width + 1 + (line_width form + 1) * n

-- the longest text
abbrev pub longest_text : Form → ℕ
longest_text form = text_length form most_duties

-- a table's records have no board
abbrev pub Placeless : Form → Record → Type 0
Placeless Table r = r.board ≡ 0
Placeless Plan r = Unit {0}

-- a record that a line can hold: a duty record of the cycle, with a name of eight bytes
pub record Writable (form : Form) (cycle : ℕ) (r : Record) : Type 0 where
  pub sized : length r.name.bytes ≡ name_width
  pub duty : in_cycle cycle r ≡ true
  pub placeless : Placeless form r

-- a table or plan within all limits
pub record Valid (form : Form) (t : Sheet) : Type 0 where
  pub limits : head_limits t.head ≡ true
  pub count : length t.rows ≡ t.head.duties
  pub rows : AllByRecursion (Writable form t.head.cycle) t.rows
