-- The search for the lowest board that takes a record.
use Rattle.std.proofs.Common.{◌≡◌, ℕ, zero, suc, ◌+◌, ◌<◌, ◌≤◌, Bool, true, false, cond, List, length, get_or, set, sym, ap, ◌∙◌, arith, length-set}
use Rattle.std.proofs.lemmas.List.{get_or-set_same, set-set}
use Rattle.duty.specs.declared.records.Record.{Record}
use Rattle.duty.specs.declared.timings.Timing.{Timing}
use Rattle.duty.specs.Limits.{most_duties}
use Rattle.boards.specs.Lists.{on_board, no_record, board_passed}
use Rattle.boards.proofs.Few.{passed_few}
use Rattle.placing.specs.FirstFit.{moved_to, seat, lowest, takes}

-- the last board that a record was put on counts
pub seat_again : (rs : List Record) (i b c : ℕ) → i < length rs → seat (seat rs i b) i c ≡ seat rs i c
seat_again rs i b c h =
    let x = moved_to (get_or rs i no_record) b in
    ap (λ y. set (set rs i x) i (moved_to y c)) (get_or-set_same rs i x no_record h) ∙ set-set rs i x (moved_to x c)

pub lowest_here : (test : ℕ → Bool) (b k : ℕ) → 0 < k → test b ≡ true → lowest test b k ≡ b
lowest_here test b zero h e = absurd (omega arith)
lowest_here test b (suc k) h e = ap (λ t. cond t b (lowest test (b + 1) k)) e

pub lowest_next : (test : ℕ → Bool) (b k m : ℕ) → k ≡ m + 1 → test b ≡ false → lowest test b k ≡ lowest test (b + 1) m
lowest_next test b zero m h e = absurd (omega arith)
lowest_next test b (suc k) m h e =
    let s : k ≡ m = omega arith in
    ap (λ t. cond t b (lowest test (b + 1) k)) e ∙ ap (λ (j : ℕ). lowest test (b + 1) j) s

pub length_seat : (rs : List Record) (i b : ℕ) → length (seat rs i b) ≡ length rs
length_seat rs i b = length-set rs i (moved_to (get_or rs i no_record) b)

-- the answer t of a trial, in which the record at i of xs, which differ from rs in its board alone, was put on board b
pub tried : (passes : List Timing → ℕ → Bool) (rs xs : List Record) (i b n cycle : ℕ) (t : Bool) → length xs ≤ most_duties → seat xs i b ≡ seat rs i b → n ≡ cycle → t ≡ board_passed passes (seat xs i b) b n → takes passes cycle rs i b ≡ t
tried passes rs xs i b n cycle t few same is told =
    (λ k. passes (on_board b (sym same k)) (sym is k)) ∙ sym (passed_few passes (seat xs i b) b n (omega (arith, length_seat xs i b))) ∙ sym told
