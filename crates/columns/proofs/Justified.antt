-- Columns are read as n just where they hold n right-justified.
use Rattle.std.proofs.Common.{◌≡◌, ℕ, zero, suc, ◌+◌, ◌-◌, ◌*◌, ◌^◌, ◌<◌, ◌≤◌, true, eqb, leb, List, [], ◌∷◌, ◌++◌, length, get_or, replicate, Some, None, decimal, sym, refl, ap, ◌∙◌, subst, ⊎_elim, arith, length-append, rules}
use native.Mathlib.Nat.{pow-le-pow_right}
use lib.ListN.{length-replicate}
use Rattle.std.specs.Str.{all_ascii_digits}
use Rattle.std.proofs.lemmas.Fmt.{decimal-digits_value, digits_decimal, digits_value-decimal, decimal_digit, length-decimal-le, first_decimal, decimal_nonempty}
use Rattle.std.proofs.lemmas.Str.Parse.{IsNumeralModel, numerals_by_fold, digits_value_short}
use Rattle.std.proofs.lemmas.Bool.{cases_Bool, eqb-true, eqb-false, ne_eqb, cases_eq, and_parts, and_from, cond-true, cond-false, leb-true, le-leb}
use Rattle.columns.specs.Numerals.{digit, further, alone, plain, numeral, widest, number_in, justified, BothWays}

-- none is no number
never : {n : ℕ} → None ≡ Some n → ⊥
never e = let z : ◌≡◌ {A = ℕ} 0 1 = cc in omega arith

abbrev read_on : ℕ → List ℕ → ℕ
read_on n [] = n
read_on n (c ∷ cs) = read_on (n * 10 + (c - 48)) cs

own : IsNumeralModel (λ ds. all_ascii_digits ds ≡ true) (read_on 0)
own = numerals_by_fold _ (search rules) read_on (search rules)

-- a number of at most nine columns
pub small : (w n : ℕ) → w ≤ widest → n < 10 ^ w → n < 1000000000
small w n few h = let p : 10 ^ w ≤ 10 ^ 9 = pow-le-pow_right (omega arith) few in omega arith

-- digits are read as their value
further_digits : (ds : List ℕ) (n : ℕ) → all_ascii_digits ds ≡ true → further n ds ≡ Some (read_on n ds)
further_digits [] n h = refl
further_digits (d ∷ ds) n h =
    let p = and_parts (digit d) (all_ascii_digits ds) h in cond-true (digit d) _ _ p.0 ∙ further_digits ds _ p.1

further_only : (ds : List ℕ) (n m : ℕ) → further n ds ≡ Some m → (all_ascii_digits ds ≡ true) × (read_on n ds ≡ m)
further_only [] n m h = (refl, cc)
further_only (d ∷ ds) n m h =
    ⊎_elim
    (λ fit. let r = further_only ds _ m (sym (cond-true (digit d) _ _ fit) ∙ h) in (and_from (digit d) (all_ascii_digits ds) fit r.0, r.1))
    (λ unfit. absurd (never (sym (cond-false (digit d) _ _ unfit) ∙ h)))
    (cases_Bool (digit d))

-- blanks before a numeral change nothing
numeral_blanks : (k : ℕ) (bs : List ℕ) → numeral (replicate k 32 ++ bs) ≡ numeral bs
numeral_blanks zero bs = refl
numeral_blanks (suc k) bs = numeral_blanks k bs

plain_further : (ds : List ℕ) → 0 < length ds → (get_or ds 0 0 ≡ 48 → ⊥) → plain ds ≡ further 0 ds
plain_further [] some no_zero = absurd (omega arith)
plain_further (d ∷ ds) some no_zero = rw (ne_eqb d 48 no_zero) refl

plain_decimal : (n : ℕ) → n < 2 ^ 64 → plain (decimal n) ≡ Some n
plain_decimal n h =
    ⊎_elim
    (λ nil. let e : n ≡ 0 = nil in subst (λ (m : ℕ). plain (decimal m) ≡ Some m) (sym e) (ap plain (decimal_digit 0 (omega arith))))
    (λ some.
    let first = first_decimal n (omega arith) h in
    plain_further (decimal n) (decimal_nonempty n h) (λ e. omega arith)
    ∙ further_digits (decimal n) 0 (digits_decimal own n h)
    ∙ ap Some (digits_value-decimal own n h))
    (cases_eq n 0)

numeral_plain : (ds : List ℕ) → 0 < length ds → (get_or ds 0 0 ≡ 32 → ⊥) → numeral ds ≡ plain ds
numeral_plain [] some no_blank = absurd (omega arith)
numeral_plain (d ∷ ds) some no_blank = rw (ne_eqb d 32 no_blank) refl

first_digit : (n : ℕ) → n < 2 ^ 64 → 48 ≤ get_or (decimal n) 0 0
first_digit n h =
    ⊎_elim
    (λ e. subst (λ (m : ℕ). 48 ≤ get_or (decimal m) 0 0) (sym e) (rw (decimal_digit 0 (omega arith)) (omega arith)))
    (λ some. omega (arith, first_decimal n (omega arith) h))
    (cases_eq n 0)

alone_only : (bs : List ℕ) (n : ℕ) → alone bs ≡ Some n → (bs ≡ []) × (n ≡ 0)
alone_only [] n h = (refl, cc)
alone_only (b ∷ bs) n h = absurd (never h)

pair_cons : {a b : ℕ} {xs ys : List ℕ} → a ≡ b → xs ≡ ys → a ∷ xs ≡ b ∷ ys
pair_cons p q = cc

-- digits with no leading zero are what is written of their value, which is below ten to their number
plain_only : (b : ℕ) (bs : List ℕ) (n : ℕ) → length (b ∷ bs) ≤ widest → plain (b ∷ bs) ≡ Some n → (decimal n ≡ b ∷ bs) × (n < 10 ^ length (b ∷ bs))
plain_only b bs n few h =
    ⊎_elim
    (λ nil.
    let a = alone_only bs n (sym (cond-true (eqb b 48) _ _ nil) ∙ h) in
    let z : b ≡ 48 = eqb-true b 48 nil in
    let zero_is : n ≡ 0 = a.1 in
    (ap decimal a.1 ∙ decimal_digit 0 (omega arith) ∙ cc, rw (a.0, zero_is) (omega arith)))
    (λ some.
    let f = further_only (b ∷ bs) 0 n (sym (cond-false (eqb b 48) _ _ some) ∙ h) in
    let short = digits_value_short own (b ∷ bs) (length (b ∷ bs)) f.0 (omega arith) in
    let below = small (length (b ∷ bs)) (read_on 0 (b ∷ bs)) few short in
    let in64 : read_on 0 (b ∷ bs) < 2 ^ 64 = omega arith in (
      ap decimal (sym f.1) ∙ decimal-digits_value own (b ∷ bs) f.0 (omega arith) (λ z. absurd (eqb-false b 48 some z)) in64,
      subst (λ (m : ℕ). m < 10 ^ length (b ∷ bs)) f.1 short,
    ))
    (cases_Bool (eqb b 48))

record Told (bs : List ℕ) (n : ℕ) : Type 0 where
  text : bs ≡ justified (length bs) n
  room : length (decimal n) ≤ length bs
  below : n < 10 ^ length bs

numeral_only : (bs : List ℕ) (n : ℕ) → length bs ≤ widest → numeral bs ≡ Some n → Told bs n
numeral_only [] n few h = absurd (never h)
numeral_only (b ∷ bs) n few h =
    ⊎_elim
    (λ blank.
    let r = numeral_only bs n (omega arith) (sym (cond-true (eqb b 32) _ _ blank) ∙ h) in
    let z : b ≡ 32 = eqb-true b 32 blank in
    let long : length (b ∷ bs) - length (decimal n) ≡ suc (length bs - length (decimal n)) = omega (arith, r.room) in
    let more : 10 ^ length bs ≤ 10 ^ length (b ∷ bs) = pow-le-pow_right (omega arith) (omega arith) in
    record { text = rw long (pair_cons z r.text); room = omega (arith, r.room); below = omega (arith, r.below, more) })
    (λ ink.
    let d = plain_only b bs n few (sym (cond-false (eqb b 32) _ _ ink) ∙ h) in
    let long : length (b ∷ bs) - length (decimal n) ≡ 0 = omega (arith, ap length d.0) in
    record { text = rw long (sym d.0); room = omega (arith, ap length d.0); below = d.1 })
    (cases_Bool (eqb b 32))

-- a number that fits its columns fills them
pub length_justified : (w n : ℕ) → 0 < w → w ≤ widest → n < 10 ^ w → length (justified w n) ≡ w
length_justified w n some few h =
    let d = length-decimal-le w n some h (omega (arith, small w n few h)) in
    length-append (replicate (w - length (decimal n)) 32) (decimal n) ∙ omega (arith, length-replicate {A = ℕ} (w - length (decimal n)) 32)

numeral_back : (w n : ℕ) → w ≤ widest → n < 10 ^ w → numeral (justified w n) ≡ Some n
numeral_back w n few h =
    let s = small w n few h in
    let in64 : n < 2 ^ 64 = omega arith in
    let first : get_or (decimal n) 0 0 ≡ 32 → ⊥ = λ e. absurd (omega (arith, first_digit n in64)) in
    numeral_blanks (w - length (decimal n)) (decimal n) ∙ numeral_plain (decimal n) (decimal_nonempty n in64) first ∙ plain_decimal n in64

narrow : (bs : List ℕ) → length bs ≤ widest → number_in bs ≡ numeral bs
narrow bs few = cond-true (leb (length bs) widest) _ _ (le-leb _ _ few)

pub number_only : (bs : List ℕ) (n : ℕ) → number_in bs ≡ Some n → (bs ≡ justified (length bs) n) × (n < 10 ^ length bs)
number_only bs n h =
    ⊎_elim
    (λ few. let r = numeral_only bs n (leb-true _ _ few) (sym (cond-true (leb (length bs) widest) _ _ few) ∙ h) in (r.text, r.below))
    (λ wide. absurd (never (sym (cond-false (leb (length bs) widest) _ _ wide) ∙ h)))
    (cases_Bool (leb (length bs) widest))

pub number_back : (w n : ℕ) → 0 < w → w ≤ widest → n < 10 ^ w → number_in (justified w n) ≡ Some n
number_back w n some few h =
    narrow (justified w n) (omega (arith, length_justified w n some few h)) ∙ numeral_back w n few h

pub both_ways : BothWays
both_ways = record { back = number_back; only = number_only }
