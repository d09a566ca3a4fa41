-- What entries say of each place.
use Rattle.std.specs.Prelude.{◌≡◌, ℕ, zero, suc, ◌+◌, ◌≤◌, cond, List, [], ◌∷◌, Some, None, Option, ◌==◌, count_by, slice_set}
use Rattle.heap.specs.Order.{Heaped}
use Rattle.queue.specs.Places.{places}
use Rattle.heap_queue.specs.Order.{sooner}
use Rattle.heap_queue.specs.declared.timed.Timed.{Timed}

-- the deadline that a place has, if an entry gives it one
abbrev pub deadline_at : List Timed → ℕ → Option ℕ
deadline_at [] p = None
deadline_at (e ∷ es) p = cond (e.place == p) (Some e.deadline) (deadline_at es p)

-- what n places from p on have
abbrev pub deadlines_from : ℕ → ℕ → List Timed → List (Option ℕ)
deadlines_from zero p es = []
deadlines_from (suc n) p es = deadline_at es p ∷ deadlines_from n (p + 1) es

-- what each place has
unfoldable pub row : List Timed → List (Option ℕ)
row es = deadlines_from places 0 es

-- how many entries are of a place
abbrev pub tally : ℕ → List Timed → ℕ
tally p es = count_by (λ e. e.place == p) es

-- a heap in which each place stands at most once, and none that there is not
pub record Sound (es : List Timed) : Type 0 where
  pub ordered : Heaped sooner es
  pub single : (p : ℕ) → tally p es ≤ 1
  pub low : (p : ℕ) → places ≤ p → tally p es ≡ 0

-- xs without the entry of a place, if there was one
pub record Without (p : ℕ) (xs ys : List Timed) : Type 0 where
  pub sound : Sound ys
  pub gone : tally p ys ≡ 0
  pub after : row ys ≡ slice_set (row xs) p None
