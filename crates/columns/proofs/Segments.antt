-- A line as five segments and the end byte: cut from the text at their columns, and put together again.
use Rattle.std.proofs.Common.{◌≡◌, ℕ, zero, suc, ◌+◌, true, not, eqb, List, [], ◌∷◌, ◌++◌, length, take, drop, sym, ap, ◌∙◌, append_assoc, arith, length-append, take-add}
use Rattle.std.proofs.lemmas.List.{take_at, drop_at, drop-drop}
use Rattle.std.proofs.lemmas.Bool.{and_parts, eqb-true}
use Rattle.columns.specs.Lines.{newline, ends}
use Rattle.columns.proofs.Clean.{clean, ends_over}

-- the segments of a line and its end byte
abbrev pub line : List ℕ → List ℕ → List ℕ → List ℕ → List ℕ → List ℕ
line a b c d e = a ++ (b ++ (c ++ (d ++ (e ++ newline ∷ []))))

ends_byte : (w : ℕ) (bs : List ℕ) → ends w bs ≡ true → take 1 (drop w bs) ≡ newline ∷ []
ends_byte w [] e = let z : ◌≡◌ {A = ℕ} 0 1 = cc in absurd (omega arith)
ends_byte zero (b ∷ bs) e = let z = eqb-true b newline e in cc
ends_byte (suc w) (b ∷ bs) e = ends_byte w bs (and_parts (not (eqb b newline)) (ends w bs) e).1

-- five segments of these widths stand in a text from its start on, and then its first end byte
pub record Cut (v w x y z : ℕ) (a b c d e bs : List ℕ) : Type 0 where
  pub first : take v bs ≡ a
  pub second : take w (drop v bs) ≡ b
  pub third : take x (drop (v + w) bs) ≡ c
  pub fourth : take y (drop (v + w + x) bs) ≡ d
  pub fifth : take z (drop (v + w + x + y) bs) ≡ e
  pub ended : ends (v + w + x + y + z) bs ≡ true

module _ (v w x y z : ℕ) (a b c d e : List ℕ) where
  -- what was cut is the line
  pub joined_up : (bs : List ℕ) → Cut v w x y z a b c d e bs → take (v + w + x + y + z + 1) bs ≡ line a b c d e
  joined_up bs c' =
      let s1 = c'.first in
      let s2 = c'.second in
      let s3 = c'.third in
      let s4 = c'.fourth in
      let s5 = c'.fifth in
      let s6 = ends_byte (v + w + x + y + z) bs c'.ended in
      let t2 = take-add v w bs in
      let t3 = take-add (v + w) x bs in
      let t4 = take-add (v + w + x) y bs in
      let t5 = take-add (v + w + x + y) z bs in
      let t6 = take-add (v + w + x + y + z) 1 bs in
      let whole : take (v + w + x + y + z + 1) bs ≡ ((((a ++ b) ++ c) ++ d) ++ e) ++ newline ∷ [] = cc in
      whole ∙ simp append_assoc

  -- a line with something after it is cut into its segments
  module _ (la : length a ≡ v) (lb : length b ≡ w) (lc : length c ≡ x) (ld : length d ≡ y) (le : length e ≡ z) where
    pub length_line : length (line a b c d e) ≡ v + w + x + y + z + 1
    length_line = simp length-append (omega arith)

    module _ (ca : clean a ≡ true) (cb : clean b ≡ true) (cc' : clean c ≡ true) (cd : clean d ≡ true) (ce : clean e ≡ true) (rest : List ℕ) where
      cut_flat : Cut v w x y z a b c d e (a ++ (b ++ (c ++ (d ++ (e ++ (newline ∷ rest))))))
      cut_flat =
          let y5 : List ℕ = newline ∷ rest in
          let y4 : List ℕ = e ++ y5 in
          let y3 : List ℕ = d ++ y4 in
          let y2 : List ℕ = c ++ y3 in
          let y1 : List ℕ = b ++ y2 in
          let all : List ℕ = a ++ y1 in
          let d1 : drop v all ≡ y1 = drop_at a y1 v la in
          let d2 : drop (v + w) all ≡ y2 = sym (drop-drop w v all) ∙ ap (drop w) d1 ∙ drop_at b y2 w lb in
          let d3 : drop (v + w + x) all ≡ y3 = sym (drop-drop x (v + w) all) ∙ ap (drop x) d2 ∙ drop_at c y3 x lc in
          let d4 : drop (v + w + x + y) all ≡ y4 = sym (drop-drop y (v + w + x) all) ∙ ap (drop y) d3 ∙ drop_at d y4 y ld in
          record {
            first = take_at a y1 v la;
            second = ap (take w) d1 ∙ take_at b y2 w lb;
            third = ap (take x) d2 ∙ take_at c y3 x lc;
            fourth = ap (take y) d3 ∙ take_at d y4 y ld;
            fifth = ap (take z) d4 ∙ take_at e y5 z le;
            ended =
                ends_over a y1 (v + w + x + y + z) (w + x + y + z) (omega arith) ca
                ∙ ends_over b y2 (w + x + y + z) (x + y + z) (omega arith) cb
                ∙ ends_over c y3 (x + y + z) (y + z) (omega arith) cc'
                ∙ ends_over d y4 (y + z) z (omega arith) cd
                ∙ ends_over e y5 z 0 (omega arith) ce;
          }

      pub cut : Cut v w x y z a b c d e (line a b c d e ++ rest)
      cut =
          let flat : line a b c d e ++ rest ≡ a ++ (b ++ (c ++ (d ++ (e ++ (newline ∷ rest))))) = simp append_assoc in
          rw flat cut_flat
