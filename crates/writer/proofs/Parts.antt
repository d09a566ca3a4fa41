-- Bytes put into the output, one part after another.
use Rattle.std.proofs.Common.{◌≡◌, ℕ, ◌+◌, ◌-◌, ◌^◌, ◌<◌, ◌≤◌, Bool, true, cond, leb, List, [], ◌++◌, length, take, drop, decimal, sym, ap, ◌∙◌, append-nil, zero-add, arith, length-append, length-drop, rules}
use lib.Seq.{paste}
use borrow.Rule.Slice.PartMut.{put_mid}
use Rattle.std.proofs.lemmas.Fmt.{length-decimal-le}
use Rattle.std.proofs.lemmas.List.{take_rest, drop_all, drop-drop}
use Rattle.std.proofs.lemmas.List.Edits.{paste_none, paste_all, paste-paste}
use Rattle.std.proofs.lemmas.Bool.{and_from, le-leb, cond-true}
use Rattle.columns.specs.Numerals.{justified, fits_in, widest}
use Rattle.columns.proofs.Justified.{length_justified, small}
use Rattle.writer.specs.Puts.{put, Appended}
use Rattle.writer.specs.declared.cursor.Writer.{Writer}

pub put_nothing : (i : ℕ) (out : List ℕ) → put i [] out ≡ out
unfolding put
put_nothing i out = sym (paste_none out i [])

pub put_first : (bs out : List ℕ) → put 0 bs out ≡ bs ++ drop (length bs) out
unfolding put
put_first bs out =
    paste_all out 0 bs (length bs) (search rules) ∙ ap (λ (n : ℕ). bs ++ drop n out) (zero-add (length bs))

-- what is put just after bytes that were put is put with them
pub put_next : (i n : ℕ) (xs ys was out : List ℕ) → was ≡ put i xs out → n ≡ i + length xs → i ≤ length out → put n ys was ≡ put i (xs ++ ys) out
unfolding put
put_next i n xs ys was out e here room =
    (λ t. put (here t) ys (e t))
    ∙ paste-paste out i xs ys (length xs) (length ys) (search rules) (search rules) room
    ∙ ap (paste out i (xs ++ ys)) (sym (length-append xs ys))

-- the rest of the output from a place on, of which the first w bytes were given
rest_is : (i w : ℕ) (bs out rest : List ℕ) → length bs ≡ w → rest ≡ bs ++ drop w (take (length out - i) (drop i out)) → put_mid i (length out - i) out rest ≡ put i bs out
unfolding put
rest_is i w bs out rest long given =
    let past : drop (length out - i) (drop i out) ≡ [] = drop_all (length out - i) (drop i out) (omega (arith, length-drop i out)) in
    let left : drop w (take (length out - i) (drop i out)) ≡ drop (i + length bs) out = ap (drop w) (take_rest out i) ∙ drop-drop w i out ∙ ap (λ (n : ℕ). drop (i + n) out) (sym long) in
    ap (λ (l : List ℕ). take i out ++ (rest ++ l)) past
    ∙ ap (λ (l : List ℕ). take i out ++ l) (append-nil rest ∙ given ∙ ap (λ (l : List ℕ). bs ++ l) left)
    ∙ sym (paste_all out i bs (length bs) (search rules))

-- a number that is below ten to its columns is written into the rest of the output, and fills them
module _ (i w n : ℕ) (out : List ℕ) (some : 0 < w) (few : w ≤ widest) (below : n < 10 ^ w) (room : i + w ≤ length out) where
  pub number_fits : fits_in w n (take (length out - i) (drop i out)) ≡ true
  number_fits =
      let part = take (length out - i) (drop i out) in
      let long : w ≤ length part = omega (arith, ap length (take_rest out i), length-drop i out) in
      and_from (leb w (length part)) (leb (length (decimal n)) w) (le-leb w (length part) long) (le-leb (length (decimal n)) w (length-decimal-le w n some below (omega (arith, small w n few below))))

  pub number_is : (rest : List ℕ) (ok : Bool) → ok ≡ fits_in w n (take (length out - i) (drop i out)) → rest ≡ cond ok (justified w n ++ drop w (take (length out - i) (drop i out))) (take (length out - i) (drop i out)) → put_mid i (length out - i) out rest ≡ put i (justified w n) out
  number_is rest ok answer after = rest_is i w (justified w n) out rest (length_justified w n some few below) (after ∙ cond-true ok _ _ (answer ∙ number_fits))

-- lines after lines
pub appended : (u v w : Writer) (xs ys : List ℕ) → Appended xs u v → Appended ys v w → u.pos ≤ length u.out.now → Appended (xs ++ ys) u w
appended u v w xs ys first more room = record {
  holds = more.holds ∙ put_next u.pos v.pos xs ys v.out.now u.out.now first.holds first.stands room;
  stands = more.stands ∙ omega (arith, first.stands, length-append xs ys);
  long = more.long ∙ first.long;
  same = more.same ∙ first.same;
}
