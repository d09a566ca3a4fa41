-- Each field of a line: what its columns hold where it is read, and that it is read where they hold it.
use Rattle.std.proofs.Common.{◌≡◌, ℕ, zero, suc, ◌+◌, ◌-◌, ◌^◌, ◌<◌, ◌≤◌, Bool, true, cond, ◌&&◌, eqb, ltb, leb, List, [], ◌∷◌, ◌++◌, length, get_or, take, drop, Some, None, Ok, Option, sym, refl, ap, ◌∙◌, ⊎_elim, arith, length-drop}
use Rattle.std.proofs.lemmas.List.{length-take-le}
use Rattle.std.proofs.lemmas.Bool.{cases_Bool, cond-true, cond-false, and_from, and_parts, eqb-true, eq-eqb, ne_eqb, ltb-false, le-ltb, leb-true, le-leb}
use Rattle.fault.proofs.Steps.{never, passed_unless, passed_where}
use Rattle.duty.specs.declared.letters.Letter.{Letter}
use Rattle.duty.specs.declared.letters.Letter.TheVariants.{Density, Slope, Exact}
use Rattle.duty.specs.Letters.{letter_byte, letter_of}
use Rattle.duty.specs.Names.{name_in}
use Rattle.columns.specs.declared.fields.Field.{Field}
use Rattle.columns.specs.Layout.{columns, width}
use Rattle.columns.specs.Lines.{Part, ends, due, in_range, number_at, matched, word_at, letter_is, letter_at, name_at}
use Rattle.columns.specs.Numerals.{number_in, justified}
use Rattle.columns.proofs.Clean.{name_le, ends_long}
use Rattle.columns.proofs.Justified.{number_only, number_back}

-- that a line is due

pub due_only : (w line : ℕ) (bs : List ℕ) → due w line bs ≡ Ok tt → ends w bs ≡ true
due_only w line bs e = (passed_where (ends w bs) (Ok tt) _ tt (passed_unless (eqb (length bs) 0) _ _ tt e).1).0

pub due_back : (w line : ℕ) (bs : List ℕ) → ends w bs ≡ true → due w line bs ≡ Ok tt
due_back w line bs e =
    let long = ends_long w bs e in
    cond-false (eqb (length bs) 0) _ _ (ne_eqb (length bs) 0 (λ z. omega arith)) ∙ cond-true (ends w bs) _ _ e

-- a number

pub record Ranged (f : Field) (n : ℕ) : Type 0 where
  pub low : f.least ≤ n
  pub high : n ≤ f.most

-- a field that starts at a column, ends no earlier, and is not too wide
abbrev pub sane : Field → Bool
sane f = leb 1 f.first && (leb f.first f.last && leb f.last (f.first + 8))

pub record Sane (f : Field) : Type 0 where
  pub starts : 1 ≤ f.first
  pub goes_on : f.first ≤ f.last
  pub narrow : f.last ≤ f.first + 8

pub sane_facts : (f : Field) → sane f ≡ true → Sane f
sane_facts f e =
    let a = and_parts _ _ e in
    let b = and_parts _ _ a.1 in
    record { starts = leb-true _ _ a.0; goes_on = leb-true _ _ b.0; narrow = leb-true _ _ b.1 }

in_range_only : (f : Field) (line : ℕ) (o : Option ℕ) (n : ℕ) → in_range f line o ≡ Ok n → (o ≡ Some n) × Ranged f n
in_range_only f line None n e = absurd (never e)
in_range_only f line (Some m) n e =
    let k = passed_where (leb f.least m && leb m f.most) (Ok m) _ n e in
    let p = and_parts (leb f.least m) (leb m f.most) k.0 in
    let q : m ≡ n = let g = k.1 in cc in
    let low = leb-true _ _ p.0 in
    let high = leb-true _ _ p.1 in
    (ap Some q, record { low = omega arith; high = omega arith })

pub number_at_only : (f : Field) (line : ℕ) (bs : List ℕ) (n : ℕ) → sane f ≡ true → f.last ≤ length bs → number_at f line bs ≡ Ok n → (columns f.first f.last bs ≡ justified (width f) n) × Ranged f n
number_at_only f line bs n ok long e =
    let cs = columns f.first f.last bs in
    let r = in_range_only f line (number_in cs) n e in
    let s = sane_facts f ok in
    let filled : length cs ≡ width f = length-take-le (width f) (drop (f.first - 1) bs) (omega (arith, length-drop (f.first - 1) bs)) in
    ((number_only cs n r.0).0 ∙ ap (λ (w : ℕ). justified w n) filled, r.1)

pub number_at_back : (f : Field) (line : ℕ) (bs : List ℕ) (n : ℕ) → sane f ≡ true → n < 10 ^ width f → Ranged f n → columns f.first f.last bs ≡ justified (width f) n → number_at f line bs ≡ Ok n
number_at_back f line bs n ok small r e =
    let s = sane_facts f ok in
    ap (λ cs. in_range f line (number_in cs)) e
    ∙ ap (in_range f line) (number_back (width f) n (omega arith) (omega arith) small)
    ∙ cond-true (leb f.least n && leb n f.most) _ _ (and_from _ _ (le-leb _ _ r.low) (le-leb _ _ r.high))

-- the word of a header

matched_le : (ws bs : List ℕ) → length ws ≤ matched ws bs → take (length ws) bs ≡ ws
matched_le [] bs h = refl
matched_le (w ∷ ws) [] h = absurd (omega arith)
matched_le (w ∷ ws) (b ∷ bs) h =
    ⊎_elim
    (λ e.
    let s = cond-true (eqb b w) (suc (matched ws bs)) 0 e in
    let same : b ≡ w = eqb-true b w e in
    let more = matched_le ws bs (omega arith) in
    cc)
    (λ e. let s = cond-false (eqb b w) (suc (matched ws bs)) 0 e in absurd (omega arith))
    (cases_Bool (eqb b w))

matched_self : (ws bs : List ℕ) → length ws ≤ matched ws (ws ++ bs)
matched_self [] bs = omega arith
matched_self (w ∷ ws) bs =
    let s = cond-true (eqb w w) (suc (matched ws (ws ++ bs))) 0 (eq-eqb w w refl) in
    let more = matched_self ws bs in
    omega arith

pub word_at_only : (ws : List ℕ) (line : ℕ) (bs : List ℕ) → word_at ws line bs ≡ Ok tt → take (length ws) bs ≡ ws
word_at_only ws line bs e =
    matched_le ws bs (ltb-false (matched ws bs) (length ws) (passed_unless (ltb (matched ws bs) (length ws)) (Ok tt) _ tt e).0)

pub word_at_back : (ws : List ℕ) (line : ℕ) (bs : List ℕ) → word_at ws line (ws ++ bs) ≡ Ok tt
word_at_back ws line bs =
    cond-false (ltb (matched ws (ws ++ bs)) (length ws)) _ _ (le-ltb _ _ (matched_self ws bs))

-- the letter of a header

letter_of_only : (b : ℕ) (l : Letter) → letter_of b ≡ Some l → b ≡ letter_byte l
letter_of_only b l e =
    ⊎_elim
    (λ d.
    let is : Density ≡ l = let s = cond-true (eqb b 68) (Some Density) (cond (eqb b 83) (Some Slope) (cond (eqb b 69) (Some Exact) None)) d in cc in
    eqb-true b 68 d ∙ ap letter_byte is)
    (λ nd.
    let past_d = sym (cond-false (eqb b 68) (Some Density) (cond (eqb b 83) (Some Slope) (cond (eqb b 69) (Some Exact) None)) nd) ∙ e in
    ⊎_elim
    (λ s.
    let is : Slope ≡ l = let k = cond-true (eqb b 83) (Some Slope) (cond (eqb b 69) (Some Exact) None) s in cc in
    eqb-true b 83 s ∙ ap letter_byte is)
    (λ ns.
    let past_s = sym (cond-false (eqb b 83) (Some Slope) (cond (eqb b 69) (Some Exact) None) ns) ∙ past_d in
    ⊎_elim
    (λ x.
    let is : Exact ≡ l = let k = cond-true (eqb b 69) (Some Exact) None x in cc in
    eqb-true b 69 x ∙ ap letter_byte is)
    (λ nx.
    let none : None ≡ Some l = sym (cond-false (eqb b 69) (Some Exact) None nx) ∙ past_s in
    let z : ◌≡◌ {A = ℕ} 0 1 = cc in
    absurd (omega arith))
    (cases_Bool (eqb b 69)))
    (cases_Bool (eqb b 83)))
    (cases_Bool (eqb b 68))

letter_of_back : (l : Letter) → letter_of (letter_byte l) ≡ Some l
letter_of_back Density = refl
letter_of_back Slope = refl
letter_of_back Exact = refl

letter_is_only : (line : ℕ) (o : Option Letter) (l : Letter) → letter_is line o ≡ Ok l → o ≡ Some l
letter_is_only line None l e = absurd (never e)
letter_is_only line (Some m) l e = let q : m ≡ l = cc in ap Some q

one_byte : (bs : List ℕ) (k : ℕ) → k < length bs → take 1 (drop k bs) ≡ get_or bs k 0 ∷ []
one_byte [] k h = absurd (omega arith)
one_byte (b ∷ bs) zero h = refl
one_byte (b ∷ bs) (suc k) h = one_byte bs k (omega arith)

pub letter_at_only : (line : ℕ) (bs : List ℕ) (l : Letter) → 6 ≤ length bs → letter_at line bs ≡ Ok l → take 1 (drop 5 bs) ≡ letter_byte l ∷ []
letter_at_only line bs l long e =
    one_byte bs 5 long ∙ ap (λ (b : ℕ). b ∷ []) (letter_of_only (get_or bs 5 0) l (letter_is_only line (letter_of (get_or bs 5 0)) l e))

pub letter_at_back : (line : ℕ) (bs : List ℕ) (l : Letter) → 6 ≤ length bs → take 1 (drop 5 bs) ≡ letter_byte l ∷ [] → letter_at line bs ≡ Ok l
letter_at_back line bs l long e =
    let is : get_or bs 5 0 ≡ letter_byte l = let o = one_byte bs 5 long in cc in
    ap (λ b. letter_is line (letter_of b)) is ∙ ap (letter_is line) (letter_of_back l)

-- the name of a duty

pub record Named (place : ℕ) (bs : List ℕ) (p : Part) : Type 0 where
  pub bytes : take 8 bs ≡ p.bytes
  pub long : length p.bytes ≡ 8
  pub good : name_in p.bytes ≡ 8
  pub here : p.place ≡ place

pub name_at_only : (place line : ℕ) (bs : List ℕ) (p : Part) → 8 ≤ length bs → name_at place line bs ≡ Ok p → Named place bs p
name_at_only place line bs p room e =
    let n = passed_unless (ltb (name_in (take 8 bs)) 8) (Ok (record { bytes = take 8 bs; place = place })) _ p e in
    let is : record { bytes = take 8 bs; place = place } ≡ p = let f = n.1 in cc in
    let bytes_are : take 8 bs ≡ p.bytes = ap (λ (q : Part). q.bytes) is in
    let long : length (take 8 bs) ≡ 8 = length-take-le 8 bs room in
    record {
      bytes = bytes_are;
      long = ap length (sym bytes_are) ∙ long;
      good = ap name_in (sym bytes_are) ∙ omega (arith, ltb-false (name_in (take 8 bs)) 8 n.0, name_le (take 8 bs), long);
      here = ap (λ (q : Part). q.place) (sym is);
    }

pub name_at_back : (place line : ℕ) (bs name : List ℕ) → take 8 bs ≡ name → name_in name ≡ 8 → name_at place line bs ≡ Ok (record { bytes = name; place = place })
name_at_back place line bs name e good =
    let enough : 8 ≤ name_in (take 8 bs) = omega (arith, ap name_in e, good) in
    cond-false (ltb (name_in (take 8 bs)) 8) _ _ (le-ltb _ 8 enough)
    ∙ ap (λ (l : List ℕ). Ok (record { bytes = l; place = place })) e
