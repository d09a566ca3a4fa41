-- The columns hold a name just where they hold a stem and then blanks.
use Rattle.std.proofs.Common.{◌≡◌, ℕ, zero, suc, ◌+◌, ◌≤◌, true, eqb, List, [], ◌∷◌, ◌++◌, length, replicate, refl, ap, ◌∙◌, ⊎_elim, arith, length-append}
use lib.ListN.{length-replicate}
use Rattle.std.specs.List.{AllByRecursion}
use Rattle.std.proofs.lemmas.Bool.{cases_Bool, cond-true, cond-false, eqb-true, eq-eqb}
use Rattle.duty.specs.Names.{name_byte, tail_byte, blanks_in, tail_in, name_in, Stem, NamesAreStems}

-- a run of blanks is counted whole
blanks_run : (k : ℕ) → blanks_in (replicate k 32) ≡ k
blanks_run zero = refl
blanks_run (suc k) = ap suc (blanks_run k)

tail_run : (k : ℕ) → tail_in (replicate k 32) ≡ k
tail_run zero = refl
tail_run (suc k) = blanks_run (suc k)

tail_stem : (others : List ℕ) (k : ℕ) → AllByRecursion (λ b. tail_byte b ≡ true) others → tail_in (others ++ replicate k 32) ≡ length others + k
tail_stem [] k h = tail_run k ∙ omega arith
tail_stem (b ∷ bs) k h =
    let s = cond-true (tail_byte b) (suc (tail_in (bs ++ replicate k 32))) (blanks_in ((b ∷ bs) ++ replicate k 32)) h.0 in
    let r = tail_stem bs k h.1 in
    s ∙ omega arith

-- bytes that are counted whole are a run of blanks
blanks_whole : (bs : List ℕ) → length bs ≤ blanks_in bs → bs ≡ replicate (length bs) 32
blanks_whole [] h = refl
blanks_whole (b ∷ bs) h =
    ⊎_elim
    (λ blank.
    let s = cond-true (eqb b 32) (suc (blanks_in bs)) 0 blank in
    let e : b ≡ 32 = eqb-true b 32 blank in
    let r = blanks_whole bs (omega arith) in
    cc)
    (λ ink. let s = cond-false (eqb b 32) (suc (blanks_in bs)) 0 ink in absurd (omega arith))
    (cases_Bool (eqb b 32))

record Tail (bs : List ℕ) : Type 0 where
  others : List ℕ
  blanks : ℕ
  goes_on : AllByRecursion (λ b. tail_byte b ≡ true) others
  whole : bs ≡ others ++ replicate blanks 32

tail_whole : (bs : List ℕ) → length bs ≤ tail_in bs → Tail bs
tail_whole [] h = record { others = []; blanks = 0; goes_on = tt; whole = refl }
tail_whole (b ∷ bs) h =
    ⊎_elim
    (λ on.
    let s = cond-true (tail_byte b) (suc (tail_in bs)) (blanks_in (b ∷ bs)) on in
    let r = tail_whole bs (omega arith) in
    record { others = b ∷ r.others; blanks = r.blanks; goes_on = (on, r.goes_on); whole = ap (λ l. b ∷ l) r.whole })
    (λ off.
    let s = cond-false (tail_byte b) (suc (tail_in bs)) (blanks_in (b ∷ bs)) off in
    record { others = []; blanks = length (b ∷ bs); goes_on = tt; whole = blanks_whole (b ∷ bs) (omega arith) })
    (cases_Bool (tail_byte b))

stem_of : (bs : List ℕ) → length bs ≡ 8 → name_in bs ≡ 8 → Stem bs
stem_of [] l e = absurd (omega arith)
stem_of (b ∷ bs) l e =
    ⊎_elim
    (λ on.
    let s = cond-true (name_byte b) (suc (tail_in bs)) 0 on in
    let r = tail_whole bs (omega arith) in
    record { first = b; others = r.others; blanks = r.blanks; starts = on; goes_on = r.goes_on; whole = ap (λ l. b ∷ l) r.whole })
    (λ off. let s = cond-false (name_byte b) (suc (tail_in bs)) 0 off in absurd (omega arith))
    (cases_Bool (name_byte b))

stem_named : (bs : List ℕ) → length bs ≡ 8 → Stem bs → name_in bs ≡ 8
stem_named bs l s =
    let counted = cond-true (name_byte s.first) (suc (tail_in (s.others ++ replicate s.blanks 32))) 0 s.starts in
    let tail = tail_stem s.others s.blanks s.goes_on in
    let long : length bs ≡ suc (length s.others + s.blanks) =
    ap length s.whole ∙ ap suc (length-append s.others (replicate s.blanks 32) ∙ ap (λ n. length s.others + n) (length-replicate {A = ℕ} s.blanks 32)) in
    ap name_in s.whole ∙ counted ∙ omega arith

pub names_are_stems : NamesAreStems
names_are_stems = record {
  only = λ bs l h. stem_of bs l (eqb-true (name_in bs) 8 h);
  back = λ bs l s. eq-eqb (name_in bs) 8 (stem_named bs l s);
}
