-- The loop that takes every record off its board.
use Rattle.std.proofs.Common.{◌≡◌, ℕ, ◌+◌, ◌<◌, ◌≤◌, List, [], ◌∷◌, ◌++◌, length, get_or, take, drop, set, sym, ap, ◌∙◌, append_assoc, append-nil, arith}
use Rattle.std.proofs.lemmas.List.{length-map, take_more_set, drop-set-lt, at_drop_more, at_drop_all, take_all}
use Rattle.duty.specs.declared.records.Record.{Record}
use Rattle.placing.specs.FirstFit.{moved_to, cleared}

pub length_cleared : (rs : List Record) → length (cleared rs) ≡ length rs
length_cleared rs = length-map rs (λ r. moved_to r 0)

module _ (rs es : List Record) (i : ℕ) (d : Record) where
  pub clears : i < length rs → take i rs ++ cleared (drop i rs) ≡ es → take (i + 1) (set rs i (moved_to (get_or rs i d) 0)) ++ cleared (drop (i + 1) (set rs i (moved_to (get_or rs i d) 0))) ≡ es
  clears h inv =
      let x = moved_to (get_or rs i d) 0 in
      (λ k. take_more_set rs i x h k ++ cleared (drop-set-lt (i + 1) rs i x (omega arith) k))
      ∙ append_assoc (take i rs) (x ∷ []) (cleared (drop (i + 1) rs))
      ∙ ap (λ l. take i rs ++ l) (sym (at_drop_more cleared rs i d h))
      ∙ inv

  pub clear : length rs ≤ i → take i rs ++ cleared (drop i rs) ≡ es → rs ≡ es
  clear h inv =
      sym (take_all i rs h) ∙ sym (append-nil (take i rs)) ∙ ap (λ l. take i rs ++ l) (sym (at_drop_all cleared rs i h)) ∙ inv
