-- Bytes with no end byte among them: names and numbers are such.
use Rattle.std.proofs.Common.{◌≡◌, ℕ, zero, suc, ◌+◌, ◌-◌, ◌^◌, ◌<◌, ◌≤◌, Bool, true, not, ◌&&◌, eqb, leb, List, [], ◌∷◌, ◌++◌, length, replicate, decimal, sym, refl, ap, ◌∙◌, subst, ⊎_elim, arith}
use Rattle.std.specs.Str.{all_ascii_digits}
use Rattle.std.proofs.lemmas.Fmt.{digits_decimal}
use Rattle.std.proofs.lemmas.Str.Parse.{numerals_by_value, tells_all_ascii_digits}
use Rattle.std.proofs.lemmas.Bool.{cases_Bool, cond-true, cond-false, cond_both, and_from, and_parts, or_cases, leb-true, eqb-true, ne_eqb}
use Rattle.duty.specs.Names.{name_byte, tail_byte, blanks_in, tail_in, name_in}
use Rattle.columns.specs.Lines.{newline, ends}
use Rattle.columns.specs.Numerals.{justified}

-- no end byte
abbrev pub clean : List ℕ → Bool
clean [] = true
clean (b ∷ bs) = not (eqb b newline) && clean bs

pub clean_append : (a b : List ℕ) → clean a ≡ true → clean b ≡ true → clean (a ++ b) ≡ true
clean_append [] b p q = q
clean_append (x ∷ a) b p q = let k = and_parts (not (eqb x newline)) (clean a) p in and_from _ _ k.0 (clean_append a b k.1 q)

-- past clean bytes, the end byte is that many columns nearer
pub ends_over : (a s : List ℕ) (k w : ℕ) → k ≡ length a + w → clean a ≡ true → ends k (a ++ s) ≡ ends w s
ends_over [] s k w e p = ap (λ (n : ℕ). ends n s) (omega arith)
ends_over (x ∷ a) s zero w e p = absurd (omega arith)
ends_over (x ∷ a) s (suc k) w e p =
    let q = and_parts (not (eqb x newline)) (clean a) p in
    ap (λ b. b && ends k (a ++ s)) q.0 ∙ ends_over a s k w (omega arith) q.1

pub ends_long : (w : ℕ) (bs : List ℕ) → ends w bs ≡ true → w < length bs
ends_long w [] e = let z : ◌≡◌ {A = ℕ} 0 1 = cc in absurd (omega arith)
ends_long zero (b ∷ bs) e = omega arith
ends_long (suc w) (b ∷ bs) e = let i = ends_long w bs (and_parts (not (eqb b newline)) (ends w bs) e).1 in omega arith

other : (b : ℕ) → (b ≡ newline → ⊥) → not (eqb b newline) ≡ true
other b h = ap not (ne_eqb b newline h)

-- numbers

clean_digits : (ds : List ℕ) → all_ascii_digits ds ≡ true → clean ds ≡ true
clean_digits [] p = refl
clean_digits (d ∷ ds) p =
    let q = and_parts (leb 48 d && leb d 57) (all_ascii_digits ds) p in
    let l = leb-true 48 d (and_parts (leb 48 d) (leb d 57) q.0).0 in
    and_from _ _ (other d (λ e. omega arith)) (clean_digits ds q.1)

clean_blanks : (k : ℕ) → clean (replicate k 32) ≡ true
clean_blanks zero = refl
clean_blanks (suc k) = clean_blanks k

pub clean_number : (w n : ℕ) → n < 2 ^ 64 → clean (justified w n) ≡ true
clean_number w n h =
    clean_append (replicate (w - length (decimal n)) 32) (decimal n) (clean_blanks (w - length (decimal n))) (clean_digits (decimal n) (digits_decimal (numerals_by_value _ tells_all_ascii_digits) n h))

-- names

name_byte_other : (b : ℕ) → name_byte b ≡ true → b ≡ newline → ⊥
name_byte_other b h e =
    let z : name_byte newline ≡ true = subst (λ (n : ℕ). name_byte n ≡ true) e h in let y : ◌≡◌ {A = ℕ} 0 1 = cc in omega arith

tail_byte_other : (b : ℕ) → tail_byte b ≡ true → b ≡ newline → ⊥
tail_byte_other b h e =
    ⊎_elim (λ n. name_byte_other b n e) (λ n. absurd (omega (arith, eqb-true b 45 n))) (or_cases (name_byte b) (eqb b 45) h)

clean_rest : (bs : List ℕ) → blanks_in bs ≡ length bs → clean bs ≡ true
clean_rest [] h = refl
clean_rest (b ∷ bs) h =
    ⊎_elim
    (λ e.
    let z = eqb-true b 32 e in
    let k : suc (blanks_in bs) ≡ length (b ∷ bs) = sym (cond-true (eqb b 32) _ _ e) ∙ h in
    and_from _ _ (other b (λ f. omega arith)) (clean_rest bs (omega arith)))
    (λ e. let k : 0 ≡ length (b ∷ bs) = sym (cond-false (eqb b 32) _ _ e) ∙ h in absurd (omega arith))
    (cases_Bool (eqb b 32))

clean_tail : (bs : List ℕ) → tail_in bs ≡ length bs → clean bs ≡ true
clean_tail [] h = refl
clean_tail (b ∷ bs) h =
    ⊎_elim
    (λ e.
    let k : suc (tail_in bs) ≡ length (b ∷ bs) = sym (cond-true (tail_byte b) _ _ e) ∙ h in
    and_from _ _ (other b (tail_byte_other b e)) (clean_tail bs (omega arith)))
    (λ e. clean_rest (b ∷ bs) (sym (cond-false (tail_byte b) _ _ e) ∙ h))
    (cases_Bool (tail_byte b))

pub clean_name : (bs : List ℕ) → name_in bs ≡ length bs → clean bs ≡ true
clean_name [] h = refl
clean_name (b ∷ bs) h =
    ⊎_elim
    (λ e.
    let k : suc (tail_in bs) ≡ length (b ∷ bs) = sym (cond-true (name_byte b) _ _ e) ∙ h in
    and_from _ _ (other b (name_byte_other b e)) (clean_tail bs (omega arith)))
    (λ e. let k : 0 ≡ length (b ∷ bs) = sym (cond-false (name_byte b) _ _ e) ∙ h in absurd (omega arith))
    (cases_Bool (name_byte b))

-- no more bytes are counted than there are

blanks_le : (bs : List ℕ) → blanks_in bs ≤ length bs
blanks_le [] = omega arith
blanks_le (b ∷ bs) = cond_both (eqb b 32) _ _ (λ (n : ℕ). n ≤ length (b ∷ bs)) (λ e. omega (arith, blanks_le bs)) (λ e. omega arith)

tail_le : (bs : List ℕ) → tail_in bs ≤ length bs
tail_le [] = omega arith
tail_le (b ∷ bs) = cond_both (tail_byte b) _ _ (λ (n : ℕ). n ≤ length (b ∷ bs)) (λ e. omega (arith, tail_le bs)) (λ e. blanks_le (b ∷ bs))

pub name_le : (bs : List ℕ) → name_in bs ≤ length bs
name_le [] = omega arith
name_le (b ∷ bs) = cond_both (name_byte b) _ _ (λ (n : ℕ). n ≤ length (b ∷ bs)) (λ e. omega (arith, tail_le bs)) (λ e. omega arith)
