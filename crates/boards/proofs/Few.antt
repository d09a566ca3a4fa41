-- A board has no more duties than there are records.
use Rattle.std.proofs.Common.{◌≡◌, ℕ, ◌≤◌, Bool, ◌&&◌, eqb, List, [], ◌∷◌, length, ap, arith}
use Rattle.std.proofs.lemmas.Bool.{cond_both, le-leb}
use Rattle.duty.specs.declared.records.Record.{Record}
use Rattle.duty.specs.declared.timings.Timing.{Timing}
use Rattle.duty.specs.Limits.{most_duties}
use Rattle.boards.specs.Lists.{on_board, board_passed}

pub on_board_few : (b : ℕ) (rs : List Record) → length (on_board b rs) ≤ length rs
on_board_few b [] = omega arith
on_board_few b (r ∷ rs) =
    cond_both (eqb r.board b) _ _ (λ ds. length ds ≤ length (r ∷ rs)) (λ e. omega (arith, on_board_few b rs)) (λ e. omega (arith, on_board_few b rs))

-- so of at most 64 records only the gauge decides
pub passed_few : (passes : List Timing → ℕ → Bool) (rs : List Record) (b cycle : ℕ) → length rs ≤ most_duties → board_passed passes rs b cycle ≡ passes (on_board b rs) cycle
passed_few passes rs b cycle few =
    ap (λ t. t && passes (on_board b rs) cycle) (le-leb (length (on_board b rs)) most_duties (omega (arith, on_board_few b rs)))
