-- A header as plain numbers.
use Rattle.std.specs.Prelude.{ℕ, Bool, cond, ◌&&◌, Some, None, Option, nat_le}
use Rattle.std.specs.Option.{option_map}
use Rattle.duty.specs.declared.headers.Header.{Header}
use Rattle.duty.specs.declared.letters.Letter.{Letter}
use Rattle.duty.specs.Limits.{longest, most_boards, most_duties}

-- a header's numbers
pub record Head : Type 0 where
  pub letter : Letter
  pub boards : ℕ
  pub duties : ℕ
  pub cycle : ℕ

-- the numbers of a header
abbrev pub head : Header → Head
head h = record { letter = h.letter; boards = h.boards; duties = h.duties; cycle = h.cycle }

abbrev pub heads : Option Header → Option Head
heads o = option_map head o

-- 1 to 16 boards, at most 64 duties, a cycle from 1 to 1,000,000
abbrev pub head_limits : Head → Bool
head_limits h =
    (nat_le 1 h.boards && nat_le h.boards most_boards) && (nat_le h.duties most_duties && (nat_le 1 h.cycle && nat_le h.cycle longest))

-- a header of these numbers, if they keep the limits
abbrev pub header_of : Letter → ℕ → ℕ → ℕ → Option Head
header_of letter boards duties cycle =
    let h : Head = record { letter = letter; boards = boards; duties = duties; cycle = cycle } in
    cond (head_limits h) (Some h) None
