-- What a ready queue holds for a board.
use Rattle.std.specs.Prelude.{◌≡◌, ℕ, ◌-◌, List, [], ◌∷◌, replicate, Some, None, Option}
use Rattle.queue.specs.Places.{places as width}
use Rattle.model.specs.Boards.{Place, Board, due, dues}

-- followed by empty places, n in all
abbrev pub padded : ℕ → List (Option ℕ) → List (Option ℕ)
padded n [] = replicate n None
padded n (d ∷ ds) = d ∷ padded (n - 1) ds

-- the queue holds the deadlines of the waiting jobs, and nothing else
abbrev pub InStep : List (Option ℕ) → Board → Type 0
InStep held b = held ≡ padded width (dues b.places)

-- the deadline that waits at a place, if there is such a place
abbrev pub due_at : Option Place → Option ℕ
due_at None = None
due_at (Some x) = due x.job
