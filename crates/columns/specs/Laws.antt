-- What reading means: a text is read as a table or plan just where it is its one text.
use Rattle.std.specs.Prelude.{◌≡◌, ℕ, ◌+◌, ◌≤◌, List, take, Ok}
use Rattle.columns.specs.declared.forms.Form.{Form}
use Rattle.columns.specs.Tables.{Sheet, sheet_of}
use Rattle.columns.specs.Texts.{text, longest_text, Valid}

-- a sheet within all limits that is written so, with room for its records
pub record ReadsAs (form : Form) (room : ℕ) (bs : List ℕ) (t : Sheet) : Type 0 where
  pub valid : Valid form t
  pub written : bs ≡ text form t
  pub room_for : t.head.duties ≤ room

-- an accepted text is the text of what was read, and a sheet read back from its text is itself
pub record OneText : Type 0 where
  pub only : (form : Form) (room : ℕ) (bs : List ℕ) (t : Sheet) → sheet_of form room bs ≡ Ok t → ReadsAs form room bs t
  pub back : (form : Form) (room : ℕ) (bs : List ℕ) (t : Sheet) → ReadsAs form room bs t → sheet_of form room bs ≡ Ok t

-- no byte past the one after the longest text changes what is read
abbrev pub RestIsIdle : Type 0
RestIsIdle =
    (form : Form) (room n : ℕ) (bs : List ℕ) → longest_text form + 1 ≤ n → sheet_of form room (take n bs) ≡ sheet_of form room bs
