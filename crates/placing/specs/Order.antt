-- The order in which duties are taken: by deadline, from the smallest up, and by line where deadlines are level.
use Rattle.std.specs.Prelude.{ℕ, ◌+◌, Bool, List, [], ◌∷◌, map}
use Rattle.duty.specs.declared.records.Record.{Record}
use Rattle.heap.specs.Pairs.{pair_upto, pair_key}
use Rattle.heap.specs.Sorted.{sorted}
use Rattle.placing.specs.declared.lined.Lined.{Lined}

-- the deadline of an entry's duty
abbrev pub due : Lined → ℕ
due e = e.record.timing.deadline

-- what entries go by: the deadline, and then the line
abbrev pub pair_of : Lined → ℕ × ℕ
pair_of e = (due e, e.index)

-- e is taken before f, or is level with it
abbrev pub sooner : Lined → Lined → Bool
sooner e f = pair_upto (pair_of e) (pair_of f)

abbrev pub lined_key : Lined → List ℕ
lined_key e = pair_key (pair_of e)

-- records with their indices, counted from i
abbrev pub lined : ℕ → List Record → List Lined
lined i [] = []
lined i (r ∷ rs) = record { «record» = r; index = i } ∷ lined (i + 1) rs

-- the indices of entries, in the order in which they are taken
abbrev pub taken : List Lined → List ℕ
taken es = map (λ e. e.index) (sorted sooner es)
