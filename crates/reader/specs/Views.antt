-- What contracts say of a cursor and of a name: bytes and places, and not where they lie in memory.
use Rattle.std.specs.Prelude.{◌≡◌, ℕ, ◌+◌, Bool, cond, List, drop, Ok, Err, Result}
use Rattle.fault.specs.declared.Fault.{Fault}
use Rattle.duty.specs.declared.headers.Header.{Header}
use Rattle.duty.specs.Heads.{Head, head}
use Rattle.columns.specs.Lines.{Part}
use Rattle.reader.specs.declared.cursor.Reader.{Reader}
use Rattle.reader.specs.declared.lines.NamePart.{NamePart}

-- the text from the cursor on
abbrev pub rest : Reader → List ℕ
rest s = drop s.pos s.text.now

-- a name by its bytes and its place
abbrev pub part : NamePart → Part
part n = record { bytes = n.bytes.now; place = n.place }

abbrev pub parts : Result NamePart Fault → Result Part Fault
parts (Ok n) = Ok (part n)
parts (Err f) = Err f

-- a header by its numbers
abbrev pub headers : Result Header Fault → Result Head Fault
headers (Ok h) = Ok (head h)
headers (Err f) = Err f

-- the cursor stands a line of w columns further on where the line was taken, and else where it stood
pub record Moved (w : ℕ) (taken : Bool) (s t : Reader) : Type 0 where
  pub text : t.text.now ≡ s.text.now
  pub pos : t.pos ≡ cond taken (s.pos + (w + 1)) s.pos
  pub line : t.line ≡ cond taken (s.line + 1) s.line
