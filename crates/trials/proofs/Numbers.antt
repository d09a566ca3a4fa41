-- A number in a line: its digits, with nothing before or after them.
use Rattle.std.proofs.Common.{◌≡◌, ℕ, zero, suc, ◌-◌, ◌≤◌, leb, Bool, true, false, List, [], ◌∷◌, ◌++◌, length, get_or, replicate, Some, None, decimal, Option, sym, refl, ap, ◌∙◌, subst, ⊎_elim, arith}
use Rattle.std.proofs.lemmas.Fmt.{decimal_digit, first_decimal, length-decimal-le}
use Rattle.std.proofs.lemmas.List.Prefix.{front_rest}
use Rattle.std.proofs.lemmas.Bool.{cases_Bool, cases_eq, cond-true, cond-false, leb-true, le-leb}
use Rattle.columns.specs.Numerals.{widest, numeral, number_in, justified}
use Rattle.columns.proofs.Justified.{small, length_justified, number_only, number_back}
use Rattle.trials.specs.Commands.{Reads, Short}

never : {n : ℕ} → None ≡ Some n → ⊥
never e = let z : ◌≡◌ {A = ℕ} 0 1 = cc in omega arith

-- a number's text begins with a digit
pub first_digit : (n : ℕ) → Short n → 48 ≤ get_or (decimal n) 0 0
first_digit n s =
    ⊎_elim
    (λ e. subst (λ (m : ℕ). 48 ≤ get_or (decimal m) 0 0) (sym e) (rw (decimal_digit 0 (omega arith)) (omega arith)))
    (λ some. omega (arith, first_decimal n (omega arith) (omega arith)))
    (cases_eq n 0)

numeral_blanks : (k : ℕ) (bs : List ℕ) → numeral (replicate k 32 ++ bs) ≡ numeral bs
numeral_blanks zero bs = refl
numeral_blanks (suc k) bs = numeral_blanks k bs

-- a number is read back from its text
number_of_decimal : (n : ℕ) → Short n → number_in (decimal n) ≡ Some n
number_of_decimal n s =
    let wide = length_justified 9 n (omega arith) (omega arith) s in
    let narrow = length-decimal-le 9 n (omega arith) s (omega arith) in
    cond-true (leb (length (decimal n)) widest) _ _ (le-leb _ _ narrow)
    ∙ sym (numeral_blanks (9 - length (decimal n)) (decimal n))
    ∙ sym (cond-true (leb (length (justified 9 n)) widest) _ _ (le-leb _ _ (omega (arith, wide))))
    ∙ number_back 9 n (omega arith) (omega arith) s

no_blanks : (k : ℕ) (ds bs : List ℕ) → bs ≡ replicate k 32 ++ ds → (get_or bs 0 0 ≡ 32 → ⊥) → ds ≡ bs
no_blanks zero ds bs e bare = sym e
no_blanks (suc k) ds bs e bare = absurd (bare (ap (λ (xs : List ℕ). get_or xs 0 0) e))

few_columns : (bs : List ℕ) (n : ℕ) → number_in bs ≡ Some n → length bs ≤ widest
few_columns bs n e =
    ⊎_elim
    (λ few. leb-true (length bs) widest few)
    (λ wide. absurd (never (sym (cond-false (leb (length bs) widest) _ _ wide) ∙ e)))
    (cases_Bool (leb (length bs) widest))

-- where no blank stands first, a number field's reading is that of the digits alone
pub bare_number : (bs : List ℕ) (r : Option ℕ) → r ≡ number_in bs → (get_or bs 0 0 ≡ 32 → ⊥) → Reads Short decimal bs r
bare_number bs None e bare = λ n s t. never (e ∙ ap number_in (sym t) ∙ number_of_decimal n s)
bare_number bs (Some n) e bare =
    let told = number_only bs n (sym e) in
    (small (length bs) n (few_columns bs n (sym e)) told.1, no_blanks (length bs - length (decimal n)) (decimal n) bs told.0 bare)

-- a number after a word
pub number_behind : (word line digits : List ℕ) (r : Option ℕ) → line ≡ word ++ digits → Reads Short decimal digits r → Reads Short (λ (n : ℕ). word ++ decimal n) line r
number_behind word line digits None e reads = λ n s t.
    reads n s (sym (front_rest line word (decimal n) (sym t)) ∙ front_rest line word digits e)
number_behind word line digits (Some n) e reads = (reads.0, ap (λ (ds : List ℕ). word ++ ds) reads.1 ∙ sym e)

-- where the bytes do not start with a blank, none stands first
pub no_blank_first : (bs : List ℕ) (starts : Bool) → ((rest : List ℕ) → bs ≡ 32 ∷ rest → starts ≡ true) → starts ≡ false → get_or bs 0 0 ≡ 32 → ⊥
no_blank_first [] starts told isnt e = omega arith
no_blank_first (b ∷ bs) starts told isnt e =
    let clash : true ≡ false = sym (told bs (ap (λ (x : ℕ). x ∷ bs) e)) ∙ isnt in
    let z : ◌≡◌ {A = ℕ} 0 1 = cc in
    omega arith
