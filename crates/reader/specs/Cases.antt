-- A line by its case, as bytes and numbers.
use Rattle.std.specs.Prelude.{ℕ, List, Ok, Err, Result}
use Rattle.fault.specs.declared.Fault.{Fault}
use Rattle.fault.specs.Faults.{then}
use Rattle.duty.specs.Heads.{Head, head}
use Rattle.columns.specs.declared.forms.Form.{Form}
use Rattle.columns.specs.declared.forms.Form.TheVariants as form
use Rattle.columns.specs.Forms.{line_width}
use Rattle.columns.specs.Layout.{header_width}
use Rattle.columns.specs.Lines.{Row, header_line, duty_row}
use Rattle.reader.specs.declared.lines.Due.{Due}
use Rattle.reader.specs.declared.lines.Due.TheVariants as due
use Rattle.reader.specs.declared.lines.Line.{Line}
use Rattle.reader.specs.declared.lines.Line.TheVariants as line
use Rattle.reader.specs.Views.{part}

-- a header, or a duty's line in a table or a plan
pub data Case : Type 0 where
  header_case : Head → Case
  duty_case : Form → Row → Case

-- the case of a line
abbrev pub case : Line → Case
case (line.Header header) = header_case (head header)
case (line.Table name timing) = duty_case form.Table (record { name = part name; timing = timing; board = 0 })
case (line.Plan name timing board) = duty_case form.Plan (record { name = part name; timing = timing; board = board })

abbrev pub cases : Result Line Fault → Result Case Fault
cases (Ok x) = Ok (case x)
cases (Err f) = Err f

-- what the line that is due is read as, at its place in the text
abbrev pub line_case : Due → ℕ → ℕ → List ℕ → Result Case Fault
line_case (due.Header form) place n bs = then (header_line form n bs) (λ h. Ok (header_case h))
line_case (due.Duty form cycle) place n bs = then (duty_row form cycle place n bs) (λ r. Ok (duty_case form r))

-- how many columns the line that is due has
abbrev pub due_width : Due → ℕ
due_width (due.Header form) = header_width
due_width (due.Duty form cycle) = line_width form
