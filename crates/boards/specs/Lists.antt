-- The list of a board.
use Rattle.std.specs.Prelude.{ℕ, Bool, cond, ◌&&◌, List, [], ◌∷◌, length, ◌==◌, nat_le}
use Rattle.duty.specs.declared.records.Record.{Record}
use Rattle.duty.specs.declared.timings.Timing.{Timing}
use Rattle.duty.specs.Limits.{most_duties}

-- the timings of the records of board b, in the order of their lines
abbrev pub on_board : ℕ → List Record → List Timing
on_board b [] = []
on_board b (r ∷ rs) = cond (r.board == b) (r.timing ∷ on_board b rs) (on_board b rs)

-- what stands for a record past the end of a list
abbrev pub no_record : Record
no_record = record { name = record { bytes = [] }; timing = record { cost = 0; deadline = 0; spacing = 0 }; board = 0 }

-- board b has at most 64 duties, and its list passes
abbrev pub board_passed : (List Timing → ℕ → Bool) → List Record → ℕ → ℕ → Bool
board_passed passes rs b cycle = nat_le (length (on_board b rs)) most_duties && passes (on_board b rs) cycle
