-- The last arrival of a place lies in the past.
use Rattle.std.specs.Prelude.{ℕ, Bool, true, Some, None, Option, nat_le}
use Rattle.board_state.specs.declared.places.Place.{Place}

abbrev pub last_past : ℕ → Option ℕ → Bool
last_past c None = true
last_past c (Some last) = nat_le last c

abbrev pub past : ℕ → Place → Bool
past c x = last_past c x.last
