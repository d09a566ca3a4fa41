-- A queue that is in step with a board: its first place is the board's, and it stays in step.
use Rattle.std.proofs.Common.{◌≡◌, ℕ, zero, suc, ◌+◌, ◌-◌, ◌≤◌, List, [], ◌∷◌, map, length, set, replicate, None, Option, refl, ap, ◌∙◌, le_of_suc-le-suc, not-suc-le-zero, arith}
use Rattle.std.specs.List.{slice_get}
use Rattle.std.specs.Option.{option_map}
use Rattle.duty.specs.declared.timings.Timing.{Timing}
use Rattle.queue.specs.First.{Due, earlier, scan, earliest}
use Rattle.queue.specs.Places.{places as width, all_empty}
use Rattle.model.specs.declared.calls.Call.TheVariants.{GeneralCancel as cancel}
use Rattle.model.specs.Boards.{Place, Board, fresh, due, dues}
use Rattle.model.specs.Queues.{padded, InStep, due_at}
use Rattle.model.specs.Steps.{after}

-- empty places change nothing
scan_empty : (n : ℕ) (best : Option Due) (at : ℕ) → scan best at (replicate n None) ≡ best
scan_empty zero best at = refl
scan_empty (suc n) best at = scan_empty n best (at + 1)

scan_padded : (ds : List (Option ℕ)) (n : ℕ) (best : Option Due) (at : ℕ) → scan best at (padded n ds) ≡ scan best at ds
scan_padded [] n best at = scan_empty n best at
scan_padded (d ∷ ds) n best at = scan_padded ds (n - 1) (earlier best at d) (at + 1)

-- the first place of a queue in step is the one whose job goes first
pub first_in_step : (held : List (Option ℕ)) (b : Board) → InStep held b → earliest held ≡ earliest (dues b.places)
first_in_step held b h = ap earliest h ∙ ap (option_map (λ e. e.place)) (scan_padded (dues b.places) width None 0)

set_empty : (n p : ℕ) → set (replicate n None) p None ≡ replicate {A = Option ℕ} n None
set_empty zero p = refl
set_empty (suc n) zero = refl
set_empty (suc n) (suc p) = ap (λ (l : List (Option ℕ)). None ∷ l) (set_empty n p)

-- a place is replaced, and the queue told what waits there now
pub padded_set : (n : ℕ) (xs : List Place) (p : ℕ) (y : Place) → set (padded n (dues xs)) p (due_at (slice_get (set xs p y) p)) ≡ padded n (dues (set xs p y))
padded_set n [] p y = set_empty n p
padded_set n (x ∷ xs) zero y = refl
padded_set n (x ∷ xs) (suc p) y = ap (λ (l : List (Option ℕ)). due x.job ∷ l) (padded_set (n - 1) xs p y)

-- so is one that stays as it is
pub padded_same : (n : ℕ) (xs : List Place) (p : ℕ) → set (padded n (dues xs)) p (due_at (slice_get xs p)) ≡ padded n (dues xs)
padded_same n [] p = set_empty n p
padded_same n (x ∷ xs) zero = refl
padded_same n (x ∷ xs) (suc p) = ap (λ (l : List (Option ℕ)). due x.job ∷ l) (padded_same (n - 1) xs p)

-- where no job waits, the queue is empty
padded_idle : {A : Type 0} (f : A → Place) → ((x : A) → due (f x).job ≡ None) → (n : ℕ) (xs : List A) → length xs ≤ n → padded n (dues (map f xs)) ≡ replicate n None
padded_idle f e n [] h = refl
padded_idle f e zero (x ∷ xs) h = absurd (not-suc-le-zero h)
padded_idle f e (suc n) (x ∷ xs) h =
    ap (λ (d : Option ℕ). d ∷ padded (suc n - 1) (dues (map f xs))) (e x)
    ∙ ap (λ (m : ℕ). None ∷ padded m (dues (map f xs))) (omega arith)
    ∙ ap (λ (l : List (Option ℕ)). None ∷ l) (padded_idle f e n xs (le_of_suc-le-suc h))

pub padded_fresh : (ds : List Timing) → length ds ≤ width → padded width (dues (map fresh ds)) ≡ all_empty
padded_fresh ds h = padded_idle fresh (λ d. refl) width ds h

pub padded_cancelled : (c : ℕ) (xs : List Place) → length xs ≤ width → padded width (dues (map (after c cancel) xs)) ≡ all_empty
padded_cancelled c xs h = padded_idle (after c cancel) (λ x. refl) width xs h
