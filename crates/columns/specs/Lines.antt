-- What a line is read as: each check in its order, and the first that fails decides.
-- A line is given by its number, counted from 1, and by the text from its first byte on.
use Rattle.std.specs.Prelude.{ℕ, zero, suc, ◌+◌, ◌-◌, ◌%◌, Bool, false, cond, not, ◌&&◌, ◌||◌, List, [], ◌∷◌, length, Some, None, Ok, Err, Option, Result, ◌==◌, nat_le, nat_lt, slice_index}
use Rattle.fault.specs.declared.Cause.TheVariants.{BadCharacter, BadNumeral, OutOfRange, BadLength, OutOfOrder, NotADivisor, MissingLine}
use Rattle.fault.specs.declared.Fault.{Fault}
use Rattle.fault.specs.declared.Layer.TheVariants as layer
use Rattle.fault.specs.Faults.{fault, then}
use Rattle.duty.specs.declared.letters.Letter.{Letter}
use Rattle.duty.specs.declared.timings.Timing.{Timing}
use Rattle.duty.specs.Heads.{Head}
use Rattle.duty.specs.Letters.{letter_of}
use Rattle.duty.specs.Limits.{name_width}
use Rattle.duty.specs.Names.{name_in}
use Rattle.columns.specs.declared.fields.Field.{Field}
use Rattle.columns.specs.declared.forms.Form.{Form}
use Rattle.columns.specs.declared.forms.Form.TheVariants.{Table, Plan}
use Rattle.columns.specs.Forms.{word, line_width}
use Rattle.columns.specs.Layout.{columns, header_width, letter_column, boards_field, duties_field, cycle_field, cost_field, deadline_field, spacing_field, board_field}
use Rattle.columns.specs.Numerals.{number_in}

-- the end byte of a line
abbrev pub newline : ℕ
newline = 10

-- the first end byte stands after just w others
abbrev pub ends : ℕ → List ℕ → Bool
ends w [] = false
ends zero (b ∷ bs) = b == newline
ends (suc w) (b ∷ bs) = not (b == newline) && ends w bs

-- a line of w columns is due
abbrev pub due : ℕ → ℕ → List ℕ → Result (Unit {0}) Fault
due w line bs =
    cond (length bs == 0) (Err (fault MissingLine line 1 layer.Line)) (cond (ends w bs) (Ok tt) (Err (fault BadLength line 1 layer.Line)))

-- a number, if one was read, within its field's range
abbrev pub in_range : Field → ℕ → Option ℕ → Result ℕ Fault
in_range f line None = Err (fault BadNumeral line f.first layer.Field)
in_range f line (Some n) =
    cond (nat_le f.least n && nat_le n f.most) (Ok n) (Err (fault OutOfRange line f.first layer.Field))

-- the number in a field
abbrev pub number_at : Field → ℕ → List ℕ → Result ℕ Fault
number_at f line bs = in_range f line (number_in (columns f.first f.last bs))

-- how many bytes from the start are those of a word
abbrev pub matched : List ℕ → List ℕ → ℕ
matched [] bs = 0
matched (w ∷ ws) [] = 0
matched (w ∷ ws) (b ∷ bs) = cond (b == w) (suc (matched ws bs)) 0

-- the word in the first columns; the first byte that is another is refused
abbrev pub word_at : List ℕ → ℕ → List ℕ → Result (Unit {0}) Fault
word_at ws line bs =
    cond (nat_lt (matched ws bs) (length ws)) (Err (fault BadCharacter line (matched ws bs + 1) layer.Field)) (Ok tt)

abbrev pub letter_is : ℕ → Option Letter → Result Letter Fault
letter_is line (Some l) = Ok l
letter_is line None = Err (fault BadCharacter line letter_column layer.Field)

-- the gauge's letter
abbrev pub letter_at : ℕ → List ℕ → Result Letter Fault
letter_at line bs = letter_is line (letter_of (slice_index bs (letter_column - 1)))

-- a header line
abbrev pub header_line : Form → ℕ → List ℕ → Result Head Fault
header_line form line bs =
    then (due header_width line bs) (λ _. then (word_at (word form) line bs) (λ _. then (letter_at line bs) (λ letter. then (number_at boards_field line bs) (λ boards. then (number_at duties_field line bs) (λ duties. then (number_at cycle_field line bs) (λ cycle. Ok (record { letter = letter; boards = boards; duties = duties; cycle = cycle })))))))

-- a name where it stands in the text: its bytes, and the place of the first of them
pub record Part : Type 0 where
  pub bytes : List ℕ
  pub place : ℕ

-- the name in the first columns; the first byte that may not stand there is refused
abbrev pub name_at : ℕ → ℕ → List ℕ → Result Part Fault
name_at place line bs =
    cond (nat_lt (name_in (columns 1 name_width bs)) name_width) (Err (fault BadCharacter line (name_in (columns 1 name_width bs) + 1) layer.Field)) (Ok (record { bytes = columns 1 name_width bs; place = place }))

-- a duty's line: its name, its timing, and its board, 0 where it has none
pub record Row : Type 0 where
  pub name : Part
  pub timing : Timing
  pub board : ℕ

-- the board of a plan line; a table line has none
abbrev pub board_at : Form → ℕ → List ℕ → Result ℕ Fault
board_at Table line bs = Ok 0
board_at Plan line bs = number_at board_field line bs

-- cost ≤ deadline ≤ spacing, and then that the spacing divides the cycle
abbrev pub related : ℕ → ℕ → Row → Result Row Fault
related cycle line r =
    cond (nat_lt r.timing.deadline r.timing.cost || nat_lt r.timing.spacing r.timing.deadline) (Err (fault OutOfOrder line cost_field.first layer.Line))
    (cond (cycle % r.timing.spacing == 0) (Ok r) (Err (fault NotADivisor line spacing_field.first layer.Line)))

-- a duty's line, read from the place in the text where it starts
abbrev pub duty_row : Form → ℕ → ℕ → ℕ → List ℕ → Result Row Fault
duty_row form cycle place line bs =
    then (due (line_width form) line bs) (λ _. then (name_at place line bs) (λ name. then (number_at cost_field line bs) (λ cost. then (number_at deadline_field line bs) (λ deadline. then (number_at spacing_field line bs) (λ spacing. then (board_at form line bs) (λ board. related cycle line (record { name = name; timing = record { cost = cost; deadline = deadline; spacing = spacing }; board = board })))))))
