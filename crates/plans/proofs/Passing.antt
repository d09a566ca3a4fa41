-- No element fails a test just where every one passes it.
use Rattle.std.proofs.Common.{◌≡◌, ℕ, ◌<◌, Bool, true, false, cond, not, List, length, get_or, Some, None, refl, ap, arith}
use Rattle.std.specs.List.{position_or_len}
use Rattle.std.proofs.lemmas.Bool.{cond-false, not-false, le-ltb, ltb-false}
use Rattle.std.proofs.lemmas.List.Sums.{position_or_len_is, fails_before_first}
use Rattle.duty.specs.Firsts.{first_failing}

nowhere : (b : Bool) (n : ℕ) → cond b (Some n) None ≡ None → b ≡ false
nowhere true n e = cc
nowhere false n e = refl

module _ {A : Type 0} (test : A → Bool) (d : A) (xs : List A) where
  pub none_failing : first_failing test xs ≡ None → (k : ℕ) → k < length xs → test (get_or xs k d) ≡ true
  unfolding first_failing
  none_failing e k h =
      let past = ltb-false (position_or_len (λ x. not (test x)) xs) (length xs) (nowhere _ _ e) in
      not-false _ (fails_before_first (λ x. not (test x)) xs k d (omega arith))

  pub all_passing : ((k : ℕ) → k < length xs → test (get_or xs k d) ≡ true) → first_failing test xs ≡ None
  unfolding first_failing
  all_passing h =
      let all = position_or_len_is (λ x. not (test x)) xs (length xs) d (omega arith) (λ k l. ap not (h k l)) (λ l. absurd (omega arith)) in
      cond-false _ _ _ (le-ltb (position_or_len (λ x. not (test x)) xs) (length xs) (omega arith))
