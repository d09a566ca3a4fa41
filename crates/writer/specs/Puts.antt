-- Bytes put into the output, and the steps of the writer that puts them there.
use Rattle.std.specs.Prelude.{◌≡◌, ℕ, ◌+◌, ◌-◌, ◌≤◌, List, length}
use lib.Seq.{paste}
use Rattle.duty.specs.declared.records.Record.{Record}
use Rattle.duty.specs.Limits.{longest, most_boards, name_width}
use Rattle.writer.specs.declared.cursor.Writer.{Writer}

-- what the output holds once bytes are put from a place on
unfoldable pub put : ℕ → List ℕ → List ℕ → List ℕ
put i bs out = paste out i bs (length bs)

-- these bytes were put from a place on, and the next line starts at pos: the output is the same memory, and as long as it was
pub record Wrote (i : ℕ) (bs : List ℕ) (pos : ℕ) (old new : Writer) : Type 0 where
  pub holds : new.out.now ≡ put i bs old.out.now
  pub stands : new.pos ≡ pos
  pub long : length new.out.now ≡ length old.out.now
  pub same : new.out.ghost_name ≡ old.out.ghost_name

-- bytes from a column of the line on
abbrev pub Placed : ℕ → List ℕ → Writer → Writer → Type 0
Placed first bs old new = Wrote (old.pos + (first - 1)) bs old.pos old new

-- whole lines: the next one starts after them
abbrev pub Appended : List ℕ → Writer → Writer → Type 0
Appended bs old new = Wrote old.pos bs (old.pos + length bs) old new

-- the numbers of a record fit their columns
pub record Fitting (r : Record) : Type 0 where
  pub cost : r.timing.cost ≤ longest
  pub deadline : r.timing.deadline ≤ longest
  pub spacing : r.timing.spacing ≤ longest
  pub board : r.board ≤ most_boards

-- the name of a record fills its columns: of a row behind a slice this is known only once it was read
abbrev pub Sized : Record → Type 0
Sized r = length r.name.bytes ≡ name_width
