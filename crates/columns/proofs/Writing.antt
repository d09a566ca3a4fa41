-- The steps of the loops that count and write the digits of a number, from its last column back.
use Rattle.std.proofs.Common.{◌≡◌, ℕ, zero, suc, ◌+◌, ◌-◌, ◌/◌, ◌%◌, ◌^◌, ◌<◌, ◌≤◌, List, [], ◌∷◌, ◌++◌, length, take, drop, set, replicate, decimal, sym, ap, ◌∙◌, append_assoc, ⊎_elim, pow-suc, arith}
use native.Mathlib.Nat.{pow-le-pow_right}
use Rattle.std.proofs.lemmas.Fmt.{decimal_step, decimal_digit, decimal_nonempty}
use Rattle.std.proofs.lemmas.List.{drop-set, take-set, take-take, take-replicate, length_push}
use Rattle.std.proofs.lemmas.Bool.{cases_lt}
use Rattle.columns.specs.Numerals.{justified}

pub one_digit : (n : ℕ) → n < 10 → length (decimal n) ≡ 1
one_digit n small = ap length (decimal_digit n small)

pub digits_step : (n : ℕ) → 10 ≤ n → n < 2 ^ 64 → length (decimal n) ≡ length (decimal (n / 10)) + 1
digits_step n big fits = ap length (decimal_step n big fits) ∙ length_push (decimal (n / 10)) _

-- a number of so many digits is below that power of ten
pub few_digits : (k n : ℕ) → n < 2 ^ 64 → length (decimal n) ≤ k → n < 10 ^ k
few_digits zero n fits few = absurd (omega (arith, decimal_nonempty n fits))
few_digits (suc k) n fits few =
    let some : 1 ≤ 10 ^ k = pow-le-pow_right {n = 10} (omega arith) {i = 0} {j = k} (omega arith) in
    rw (pow-suc 10 k) (
    ⊎_elim
    (λ (small : n < 10). omega arith)
    (λ (big : 10 ≤ n). let rest : n / 10 < 10 ^ k = few_digits k (n / 10) (omega arith) (omega (arith, digits_step n big fits)) in omega arith)
    (cases_lt n 10)
    )

justified_step : (i n : ℕ) → 10 ≤ n → n < 2 ^ 64 → justified (i + 1) n ≡ justified i (n / 10) ++ (48 + n % 10) ∷ []
justified_step i n big fits =
    let blanks : i + 1 - length (decimal n) ≡ i - length (decimal (n / 10)) = omega (arith, digits_step n big fits) in
    ap (λ (m : ℕ). replicate m 32 ++ decimal n) blanks
    ∙ ap (λ (ds : List ℕ). replicate (i - length (decimal (n / 10))) 32 ++ ds) (decimal_step n big fits)
    ∙ sym (append_assoc (replicate (i - length (decimal (n / 10))) 32) (decimal (n / 10)) ((48 + n % 10) ∷ []))

justified_last : (i n : ℕ) → n < 10 → justified (i + 1) n ≡ replicate i 32 ++ (48 + n) ∷ []
justified_last i n small =
    let blanks : i + 1 - length (decimal n) ≡ i = omega (arith, one_digit n small) in
    ap (λ (m : ℕ). replicate m 32 ++ decimal n) blanks ∙ ap (λ (ds : List ℕ). replicate i 32 ++ ds) (decimal_digit n small)

-- a byte put just before what is written is the last of what is still due
put_last : (i b : ℕ) (front out : List ℕ) → i < length out → front ++ drop i (set out i b) ≡ (front ++ b ∷ []) ++ drop (i + 1) out
put_last i b front out h = ap (λ (l : List ℕ). front ++ l) (drop-set out i b h) ∙ sym (append_assoc front (b ∷ []) _)

pub write_digit : (i n : ℕ) (out : List ℕ) → 10 ≤ n → n < 2 ^ 64 → i < length out → justified i (n / 10) ++ drop i (set out i (48 + n % 10)) ≡ justified (i + 1) n ++ drop (i + 1) out
write_digit i n out big fits h = put_last i _ _ out h ∙ ap (λ (f : List ℕ). f ++ drop (i + 1) out) (sym (justified_step i n big fits))

pub write_last : (i n : ℕ) (out : List ℕ) → n < 10 → i < length out → replicate i 32 ++ drop i (set out i (48 + n % 10)) ≡ justified (i + 1) n ++ drop (i + 1) out
write_last i n out small h =
    let digit : n % 10 ≡ n = omega arith in
    ap (λ (d : ℕ). replicate i 32 ++ drop i (set out i (48 + d))) digit
    ∙ put_last i _ _ out h
    ∙ ap (λ (f : List ℕ). f ++ drop (i + 1) out) (sym (justified_last i n small))

-- the columns before a byte that is put stay blank
pub blank_before : (i b : ℕ) (out : List ℕ) → take i out ≡ replicate i 32 → take (i - 1) (set out (i - 1) b) ≡ replicate (i - 1) 32
blank_before i b out blank =
    take-set out (i - 1) b
    ∙ sym (take-take (i - 1) i out (omega arith))
    ∙ ap (take (i - 1)) blank
    ∙ take-replicate (i - 1) i 32 (omega arith)
