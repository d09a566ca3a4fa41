-- Entries of different places below n are at most n, and fewer where one of these places is missing.
use Rattle.std.proofs.Common.{◌≡◌, ℕ, zero, suc, ◌+◌, ◌<◌, ◌≤◌, ltb, List, [], ◌∷◌, length, refl, ap, ◌∙◌, ⊎_elim, arith}
use Rattle.std.proofs.lemmas.Bool.{cases_Bool, ltb-true, ltb-false}
use Rattle.queue.specs.Places.{places}
use Rattle.heap_queue.specs.Entries.{tally, Sound}
use Rattle.heap_queue.specs.declared.timed.Timed.{Timed}
use Rattle.heap_queue.specs.Tallies.{whether, tally_same, tally_other, tally_grows}

-- how many entries are of places below n
abbrev tallies : ℕ → List Timed → ℕ
tallies zero es = 0
tallies (suc n) es = tally n es + tallies n es

tallies_none : (n : ℕ) → tallies n [] ≡ 0
tallies_none zero = refl
tallies_none (suc n) = omega (arith, tallies_none n)

tallies_past : (n : ℕ) (e : Timed) (es : List Timed) → n ≤ e.place → tallies n (e ∷ es) ≡ tallies n es
tallies_past zero e es h = refl
tallies_past (suc n) e es h = omega (arith, tallies_past n e es (omega arith), tally_other e es n (omega arith))

tallies_more : (n : ℕ) (e : Timed) (es : List Timed) → e.place < n → tallies n (e ∷ es) ≡ 1 + tallies n es
tallies_more zero e es h = absurd (omega arith)
tallies_more (suc n) e es h = whether e.place n
    (λ i. omega (arith, tally_same e es n i, tallies_past n e es (omega arith)))
    (λ i. omega (arith, tally_other e es n i, tallies_more n e es (omega arith)))

length_tallies : (n : ℕ) (es : List Timed) → ((k : ℕ) → n ≤ k → tally k es ≡ 0) → length es ≡ tallies n es
length_tallies n [] low = omega (arith, tallies_none n)
length_tallies n (e ∷ es) low =
    let rest = length_tallies n es (λ k h. omega (arith, low k h, tally_grows e es k)) in
    ⊎_elim
    (λ t. omega (arith, tallies_more n e es (ltb-true _ _ t), rest))
    (λ t. absurd (omega (arith, low e.place (ltb-false _ _ t), tally_same e es e.place refl)))
    (cases_Bool (ltb e.place n))

tallies_most : (n : ℕ) (es : List Timed) → ((k : ℕ) → tally k es ≤ 1) → tallies n es ≤ n
tallies_most zero es h = omega arith
tallies_most (suc n) es h = omega (arith, h n, tallies_most n es h)

tallies_fewer : (n p : ℕ) (es : List Timed) → ((k : ℕ) → tally k es ≤ 1) → p < n → tally p es ≡ 0 → tallies n es < n
tallies_fewer zero p es h l g = absurd (omega arith)
tallies_fewer (suc n) p es h l g = whether n p
    (λ i. omega (arith, tallies_most n es h, (let z : tally n es ≡ 0 = ap (λ (j : ℕ). tally j es) i ∙ g in z)))
    (λ i. omega (arith, h n, tallies_fewer n p es h (omega arith) g))

fewer_than : (n p : ℕ) (es : List Timed) → ((k : ℕ) → tally k es ≤ 1) → ((k : ℕ) → n ≤ k → tally k es ≡ 0) → p < n → tally p es ≡ 0 → length es < n
fewer_than n p es single low l g = omega (arith, length_tallies n es low, tallies_fewer n p es single l g)

-- where a place has nothing, there is room for its entry
pub room_for : (p : ℕ) (es : List Timed) → Sound es → p < places → tally p es ≡ 0 → length es < places
room_for p es s l g = fewer_than places p es s.single s.low l g
