-- What the functions on the start of a text find, against its definitions.
use Rattle.std.proofs.Common.{◌≡◌, ℕ, zero, suc, ◌+◌, ◌<◌, ◌≤◌, Bool, true, false, not, ◌&&◌, ◌||◌, eqb, nat_eq, List, [], ◌∷◌, length, get_or, take, drop, refl, ap, ◌∙◌, arith}
use Rattle.std.specs.List.{list_any}
use Rattle.std.proofs.lemmas.List.{at_drop_more, at_drop_all}
use Rattle.std.proofs.lemmas.Bool.{cond-false, and_right, ne_eqb}
use Rattle.columns.specs.Lines.{ends, matched}

-- the end byte of a line

-- a text with no byte after w others
pub ends_short : (w : ℕ) (text : List ℕ) → length text ≤ w → ends w text ≡ false
ends_short w [] short = refl
ends_short zero (b ∷ bs) short = absurd (omega arith)
ends_short (suc w) (b ∷ bs) short = and_right _ _ (ends_short w bs (omega arith))

none_before : (b here more : Bool) → (not b && (here && not more)) ≡ (here && not (b || more))
none_before true true more = refl
none_before true false more = refl
none_before false here more = refl

alone : (here : Bool) → here ≡ (here && not false)
alone true = refl
alone false = refl

-- one that has such a byte
pub ends_here : (w : ℕ) (text : List ℕ) → w < length text → ends w text ≡ (eqb (get_or text w 0) 10 && not (list_any (λ b. nat_eq b 10) (take w text)))
ends_here w [] long = absurd (omega arith)
ends_here zero (b ∷ bs) long = alone (eqb b 10)
ends_here (suc w) (b ∷ bs) long =
    ap (λ t. not (eqb b 10) && t) (ends_here w bs (omega arith)) ∙ none_before (eqb b 10) (eqb (get_or bs w 0) 10) (list_any (λ x. nat_eq x 10) (take w bs))

-- the bytes of a word

matched_none : (ws : List ℕ) → matched ws [] ≡ 0
matched_none [] = refl
matched_none (w ∷ ws) = refl

-- where the text is over
pub matched_end : (ws bs : List ℕ) (i : ℕ) → length bs ≤ i → matched (drop i ws) (drop i bs) ≡ 0
matched_end ws bs i past = at_drop_all (matched (drop i ws)) bs i past ∙ matched_none (drop i ws)

-- where its next byte is another
pub matched_stop : (ws bs : List ℕ) (i : ℕ) → i < length ws → i < length bs → (get_or bs i 0 ≡ get_or ws i 0 → ⊥) → matched (drop i ws) (drop i bs) ≡ 0
matched_stop ws bs i in_word in_text e =
    at_drop_more (λ (l : List ℕ). matched l (drop i bs)) ws i 0 in_word
    ∙ at_drop_more (λ (l : List ℕ). matched (get_or ws i 0 ∷ drop (i + 1) ws) l) bs i 0 in_text
    ∙ cond-false _ _ _ (ne_eqb _ _ e)
