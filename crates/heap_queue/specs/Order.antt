-- The order of the entries: the smaller deadline first, and of equal ones the lower place.
use Rattle.std.specs.Prelude.{ℕ, Bool, List}
use Rattle.heap.specs.Pairs.{pair_upto, pair_key}
use Rattle.heap_queue.specs.declared.timed.Timed.{Timed}

-- deadline, and then place
abbrev pub pair_of : Timed → ℕ × ℕ
pair_of e = (e.deadline, e.place)

-- e may leave before f, or is level with it
abbrev pub sooner : Timed → Timed → Bool
sooner e f = pair_upto (pair_of e) (pair_of f)

abbrev pub timed_key : Timed → List ℕ
timed_key e = pair_key (pair_of e)
