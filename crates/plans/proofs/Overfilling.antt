-- The loop over the boards.
use Rattle.std.proofs.Common.{◌≡◌, ℕ, zero, suc, ◌+◌, Bool, true, List, ap, ◌∙◌, arith}
use Rattle.std.proofs.lemmas.Bool.{cond-true}
use Rattle.duty.specs.declared.records.Record.{Record}
use Rattle.duty.specs.declared.timings.Timing.{Timing}
use Rattle.boards.specs.Lists.{board_passed}
use Rattle.plans.specs.Closing.{overfull_fault}

-- where board b passes, the boards from b + 1 on decide
pub overfull_next : (passes : List Timing → ℕ → Bool) (rs : List Record) (cycle b k m : ℕ) → k ≡ m + 1 → board_passed passes rs b cycle ≡ true → overfull_fault passes rs cycle b k ≡ overfull_fault passes rs cycle (b + 1) m
overfull_next passes rs cycle b zero m h e = absurd (omega arith)
overfull_next passes rs cycle b (suc k) m h e =
    let s : k ≡ m = omega arith in cond-true _ _ _ e ∙ ap (overfull_fault passes rs cycle (b + 1)) s
