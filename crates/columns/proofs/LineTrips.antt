-- A line is read just where it is the text of a header or a record within the limits.
use Rattle.std.proofs.Common.{◌≡◌, ℕ, ◌+◌, ◌%◌, ◌<◌, ◌≤◌, true, ◌||◌, eqb, ltb, leb, List, [], ◌∷◌, ◌++◌, length, take, drop, Ok, sym, refl, ap, ◌∙◌, subst, arith}
use Rattle.std.proofs.lemmas.List.{take-append-drop}
use Rattle.std.proofs.lemmas.Bool.{cond-true, cond-false, and_from, and_parts, or_parts, or_from, eqb-true, eq-eqb, ltb-false, le-ltb, leb-true, le-leb}
use Rattle.fault.proofs.Steps.{then_ok, then_back, passed_unless, passed_where}
use Rattle.duty.specs.declared.letters.Letter.{Letter}
use Rattle.duty.specs.declared.letters.Letter.TheVariants.{Density, Slope, Exact}
use Rattle.duty.specs.declared.records.Record.{Record}
use Rattle.duty.specs.Heads.{Head, head_limits}
use Rattle.duty.specs.Letters.{letter_byte}
use Rattle.duty.specs.Names.{name_in}
use Rattle.columns.specs.declared.forms.Form.{Form}
use Rattle.columns.specs.declared.forms.Form.TheVariants.{Table, Plan}
use Rattle.columns.specs.Forms.{word, line_width}
use Rattle.columns.specs.Layout.{boards_field, duties_field, cycle_field, cost_field, deadline_field, spacing_field, board_field}
use Rattle.columns.specs.Lines.{Row, ends, due, number_at, word_at, letter_at, header_line, name_at, board_at, related, duty_row}
use Rattle.columns.specs.Numerals.{justified}
use Rattle.columns.specs.Tables.{record_of}
use Rattle.columns.specs.Texts.{header_text, board_text, line_text, Placeless, Writable}
use Rattle.columns.proofs.Clean.{clean, clean_name, clean_number, ends_long}
use Rattle.columns.proofs.FieldTrips.{due_only, due_back, Ranged, number_at_only, number_at_back, word_at_only, word_at_back, letter_at_only, letter_at_back, name_at_only, name_at_back}
use Rattle.columns.proofs.Justified.{length_justified}
use Rattle.columns.proofs.Segments.{Cut, joined_up, length_line, cut}

-- the limits of a header, as facts
pub record Limited (h : Head) : Type 0 where
  pub boards : Ranged boards_field h.boards
  pub duties : Ranged duties_field h.duties
  pub cycle : Ranged cycle_field h.cycle

pub limited : (h : Head) → head_limits h ≡ true → Limited h
limited h e =
    let a = and_parts _ _ e in
    let b = and_parts (leb 1 h.boards) _ a.0 in
    let c = and_parts _ _ a.1 in
    let d = and_parts (leb 1 h.cycle) _ c.1 in
    record {
      boards = record { low = leb-true _ _ b.0; high = leb-true _ _ b.1 };
      duties = record { low = omega arith; high = leb-true _ _ c.0 };
      cycle = record { low = leb-true _ _ d.0; high = leb-true _ _ d.1 };
    }

limits_from : (h : Head) → Limited h → head_limits h ≡ true
limits_from h l =
    and_from _ _
    (and_from _ _ (le-leb _ _ l.boards.low) (le-leb _ _ l.boards.high))
    (and_from _ _ (le-leb _ _ l.duties.high) (and_from _ _ (le-leb _ _ l.cycle.low) (le-leb _ _ l.cycle.high)))

-- the header

word_long : (form : Form) → length (word form) ≡ 5
word_long Table = refl
word_long Plan = refl

word_clean : (form : Form) → clean (word form) ≡ true
word_clean Table = refl
word_clean Plan = refl

letter_clean : (l : Letter) → clean (letter_byte l ∷ []) ≡ true
letter_clean Density = refl
letter_clean Slope = refl
letter_clean Exact = refl

pub header_only : (form : Form) (n : ℕ) (bs : List ℕ) (h : Head) → header_line form n bs ≡ Ok h → (take 21 bs ≡ header_text form h) × (head_limits h ≡ true)
header_only form n bs h e =
    then_back (due 20 n bs) _ h e (λ _ e1 f1.
    then_back (word_at (word form) n bs) _ h f1 (λ _ e2 f2.
    then_back (letter_at n bs) _ h f2 (λ letter e3 f3.
    then_back (number_at boards_field n bs) _ h f3 (λ boards e4 f4.
    then_back (number_at duties_field n bs) _ h f4 (λ duties e5 f5.
    then_back (number_at cycle_field n bs) _ h f5 (λ cycle e6 f6.
    let ended = due_only 20 n bs e1 in
    let long = ends_long 20 bs ended in
    let is : record { letter = letter; boards = boards; duties = duties; cycle = cycle } ≡ h = cc in
    let b = number_at_only boards_field n bs boards refl (omega arith) e4 in
    let d = number_at_only duties_field n bs duties refl (omega arith) e5 in
    let c = number_at_only cycle_field n bs cycle refl (omega arith) e6 in
    let first : take 5 bs ≡ word form = ap (λ (k : ℕ). take k bs) (sym (word_long form)) ∙ word_at_only (word form) n bs e2 in
    let parts : Cut 5 1 3 3 8 (word form) (letter_byte letter ∷ []) (justified 3 boards) (justified 3 duties) (justified 8 cycle) bs =
    record { first = first; second = letter_at_only n bs letter (omega arith) e3; third = b.0; fourth = d.0; fifth = c.0; ended = ended } in
    let P : Head → Type 0 = λ x. (take 21 bs ≡ header_text form x) × (head_limits x ≡ true) in
    subst P is (
      joined_up 5 1 3 3 8 (word form) (letter_byte letter ∷ []) (justified 3 boards) (justified 3 duties) (justified 8 cycle) bs parts,
      limits_from (record { letter = letter; boards = boards; duties = duties; cycle = cycle }) (record { boards = b.1; duties = d.1; cycle = c.1 }),
    )))))))

pub length_header : (form : Form) (h : Head) → head_limits h ≡ true → length (header_text form h) ≡ 21
length_header form h e =
    let l = limited h e in
    let b = l.boards.high in
    let d = l.duties.high in
    let c = l.cycle.high in
    length_line 5 1 3 3 8 (word form) (letter_byte h.letter ∷ []) (justified 3 h.boards) (justified 3 h.duties) (justified 8 h.cycle)
    (word_long form) refl
    (length_justified 3 h.boards (omega arith) (omega arith) (omega arith))
    (length_justified 3 h.duties (omega arith) (omega arith) (omega arith))
    (length_justified 8 h.cycle (omega arith) (omega arith) (omega arith))

pub header_back : (form : Form) (n : ℕ) (h : Head) (rest : List ℕ) → head_limits h ≡ true → header_line form n (header_text form h ++ rest) ≡ Ok h
header_back form n h rest e =
    let l = limited h e in
    let b = l.boards.high in
    let d = l.duties.high in
    let c = l.cycle.high in
    let bs = header_text form h ++ rest in
    let parts =
    cut 5 1 3 3 8 (word form) (letter_byte h.letter ∷ []) (justified 3 h.boards) (justified 3 h.duties) (justified 8 h.cycle)
    (word_long form) refl
    (length_justified 3 h.boards (omega arith) (omega arith) (omega arith))
    (length_justified 3 h.duties (omega arith) (omega arith) (omega arith))
    (length_justified 8 h.cycle (omega arith) (omega arith) (omega arith))
    (word_clean form) (letter_clean h.letter)
    (clean_number 3 h.boards (omega arith))
    (clean_number 3 h.duties (omega arith))
    (clean_number 8 h.cycle (omega arith))
    rest in
    let long = ends_long 20 bs parts.ended in
    let w : bs ≡ word form ++ drop 5 bs = sym (take-append-drop 5 bs) ∙ ap (λ (x : List ℕ). x ++ drop 5 bs) parts.first in
    then_ok _ (due_back 20 n bs parts.ended)
    ∙ then_ok _ (ap (word_at (word form) n) w ∙ word_at_back (word form) n (drop 5 bs))
    ∙ then_ok _ (letter_at_back n bs h.letter (omega arith) parts.second)
    ∙ then_ok _ (number_at_back boards_field n bs h.boards refl (omega arith) l.boards parts.third)
    ∙ then_ok _ (number_at_back duties_field n bs h.duties refl (omega arith) l.duties parts.fourth)
    ∙ then_ok _ (number_at_back cycle_field n bs h.cycle refl (omega arith) l.cycle parts.fifth)

-- a duty's line

-- the limits of a record that a line holds, as facts
pub record Held (form : Form) (cycle : ℕ) (r : Record) : Type 0 where
  pub sized : length r.name.bytes ≡ 8
  pub named : name_in r.name.bytes ≡ 8
  pub positive : 1 ≤ r.timing.cost
  pub feasible : r.timing.cost ≤ r.timing.deadline
  pub constrained : r.timing.deadline ≤ r.timing.spacing
  pub bounded : r.timing.spacing ≤ 1000000
  pub boarded : r.board ≤ 16
  pub divides : cycle % r.timing.spacing ≡ 0
  pub placeless : Placeless form r

pub held : (form : Form) (cycle : ℕ) (r : Record) → Writable form cycle r → Held form cycle r
held form cycle r w =
    let a = and_parts _ _ w.duty in
    let b = and_parts _ _ a.0 in
    let c = and_parts _ _ b.1 in
    let d = and_parts (leb 1 r.timing.cost) _ c.0 in
    let e = and_parts (leb r.timing.cost r.timing.deadline) _ d.1 in
    let f = and_parts (leb r.timing.deadline r.timing.spacing) _ e.1 in
    record {
      sized = w.sized;
      named = eqb-true _ _ b.0;
      positive = leb-true _ _ d.0;
      feasible = leb-true _ _ e.0;
      constrained = leb-true _ _ f.0;
      bounded = leb-true _ _ f.1;
      boarded = leb-true _ _ c.1;
      divides = eqb-true _ _ a.1;
      placeless = w.placeless;
    }

writable : (form : Form) (cycle : ℕ) (r : Record) → Held form cycle r → Writable form cycle r
writable form cycle r h = record {
  sized = h.sized;
  duty =
      and_from _ _
      (and_from _ _ (eq-eqb _ _ h.named)
      (and_from _ _
      (and_from _ _ (le-leb _ _ h.positive) (and_from _ _ (le-leb _ _ h.feasible) (and_from _ _ (le-leb _ _ h.constrained) (le-leb _ _ h.bounded))))
      (le-leb _ _ h.boarded)))
      (eq-eqb _ _ h.divides);
  placeless = h.placeless;
}

-- how many columns the board has
abbrev board_width : Form → ℕ
board_width Table = 0
board_width Plan = 3

-- the row of a line that starts at this place and holds this record
abbrev pub row_at : ℕ → Record → Row
row_at place r = record { name = record { bytes = r.name.bytes; place = place }; timing = r.timing; board = r.board }

record Boarded (form : Form) (bs : List ℕ) (r : Record) : Type 0 where
  columns : take (board_width form) (drop 32 bs) ≡ board_text form r
  small : r.board ≤ 16
  placeless : Placeless form r

board_at_only : (form : Form) (n : ℕ) (bs : List ℕ) (r : Record) → line_width form < length bs → board_at form n bs ≡ Ok r.board → Boarded form bs r
board_at_only Table n bs r long e =
    let none : 0 ≡ r.board = cc in record { columns = refl; small = omega arith; placeless = sym none }
board_at_only Plan n bs r long e =
    let b = number_at_only board_field n bs r.board refl (omega arith) e in
    record { columns = b.0; small = b.1.high; placeless = tt }

board_at_back : (form : Form) (n : ℕ) (bs : List ℕ) (r : Record) → r.board ≤ 16 → Placeless form r → take (board_width form) (drop 32 bs) ≡ board_text form r → board_at form n bs ≡ Ok r.board
board_at_back Table n bs r small none e = ap Ok (sym none)
board_at_back Plan n bs r small none e =
    number_at_back board_field n bs r.board refl (omega arith) (record { low = omega arith; high = small }) e

board_clean : (form : Form) (r : Record) → r.board ≤ 16 → clean (board_text form r) ≡ true
board_clean Table r small = refl
board_clean Plan r small = clean_number 3 r.board (omega arith)

board_long : (form : Form) (r : Record) → r.board ≤ 16 → length (board_text form r) ≡ board_width form
board_long Table r small = refl
board_long Plan r small = length_justified 3 r.board (omega arith) (omega arith) (omega arith)

-- the end byte of a line stands after the board's columns
line_end : (form : Form) → 32 + board_width form ≡ line_width form
line_end Table = refl
line_end Plan = refl

related_only : (cycle n : ℕ) (r x : Row) → related cycle n r ≡ Ok x → (r ≡ x) × (r.timing.cost ≤ r.timing.deadline) × (r.timing.deadline ≤ r.timing.spacing) × (cycle % r.timing.spacing ≡ 0)
related_only cycle n r x e =
    let d = r.timing in
    let a = passed_unless (ltb d.deadline d.cost || ltb d.spacing d.deadline) _ _ x e in
    let b = passed_where (eqb (cycle % d.spacing) 0) (Ok r) _ x a.1 in
    let o = or_parts (ltb d.deadline d.cost) (ltb d.spacing d.deadline) a.0 in
    let same : r ≡ x = let f = b.1 in cc in
    (same, ltb-false _ _ o.0, ltb-false _ _ o.1, eqb-true _ _ b.0)

related_back : (cycle n : ℕ) (r : Row) → r.timing.cost ≤ r.timing.deadline → r.timing.deadline ≤ r.timing.spacing → cycle % r.timing.spacing ≡ 0 → related cycle n r ≡ Ok r
related_back cycle n r f c d =
    cond-false (ltb r.timing.deadline r.timing.cost || ltb r.timing.spacing r.timing.deadline) _ _ (or_from _ _ (le-ltb _ _ f) (le-ltb _ _ c))
    ∙ cond-true (eqb (cycle % r.timing.spacing) 0) _ _ (eq-eqb _ _ d)

-- what an accepted line is
pub record LineTold (form : Form) (cycle place : ℕ) (bs : List ℕ) (r : Row) : Type 0 where
  pub written : take (line_width form + 1) bs ≡ line_text form (record_of r)
  pub good : Writable form cycle (record_of r)
  pub here : r.name.place ≡ place

pub duty_only : (form : Form) (cycle place n : ℕ) (bs : List ℕ) (r : Row) → duty_row form cycle place n bs ≡ Ok r → LineTold form cycle place bs r
duty_only form cycle place n bs r e =
    then_back (due (line_width form) n bs) _ r e (λ _ e1 f1.
    then_back (name_at place n bs) _ r f1 (λ name e2 f2.
    then_back (number_at cost_field n bs) _ r f2 (λ cost e3 f3.
    then_back (number_at deadline_field n bs) _ r f3 (λ deadline e4 f4.
    then_back (number_at spacing_field n bs) _ r f4 (λ spacing e5 f5.
    then_back (board_at form n bs) _ r f5 (λ board e6 f6.
    let ended = due_only (line_width form) n bs e1 in
    let long = ends_long (line_width form) bs ended in
    let room : 32 < length bs = omega (arith, line_end form) in
    let row : Row = record { name = name; timing = record { cost = cost; deadline = deadline; spacing = spacing }; board = board } in
    let o = related_only cycle n row r f6 in
    let m = name_at_only place n bs name (omega arith) e2 in
    let c = number_at_only cost_field n bs cost refl (omega arith) e3 in
    let d = number_at_only deadline_field n bs deadline refl (omega arith) e4 in
    let s = number_at_only spacing_field n bs spacing refl (omega arith) e5 in
    let b = board_at_only form n bs (record_of row) long e6 in
    let ended_here : ends (32 + board_width form) bs ≡ true = ap (λ (k : ℕ). ends k bs) (line_end form) ∙ ended in
    let parts : Cut 8 8 8 8 (board_width form) name.bytes (justified 8 cost) (justified 8 deadline) (justified 8 spacing) (board_text form (record_of row)) bs =
    record { first = m.bytes; second = c.0; third = d.0; fourth = s.0; fifth = b.columns; ended = ended_here } in
    let P : Row → Type 0 = LineTold form cycle place bs in
    subst P o.0 (record {
      written =
          ap (λ (k : ℕ). take (k + 1) bs) (sym (line_end form))
          ∙ joined_up 8 8 8 8 (board_width form) name.bytes (justified 8 cost) (justified 8 deadline) (justified 8 spacing) (board_text form (record_of row)) bs parts;
      good = writable form cycle (record_of row) (record {
        sized = m.long;
        named = m.good;
        positive = c.1.low;
        feasible = o.1;
        constrained = o.2;
        bounded = s.1.high;
        boarded = b.small;
        divides = o.3;
        placeless = b.placeless;
      });
      here = m.here;
    })))))))

pub length_duty : (form : Form) (cycle : ℕ) (r : Record) → Writable form cycle r → length (line_text form r) ≡ line_width form + 1
length_duty form cycle r w =
    let h = held form cycle r w in
    length_line 8 8 8 8 (board_width form) r.name.bytes (justified 8 r.timing.cost) (justified 8 r.timing.deadline) (justified 8 r.timing.spacing) (board_text form r)
    h.sized
    (length_justified 8 r.timing.cost (omega arith) (omega arith) (omega arith))
    (length_justified 8 r.timing.deadline (omega arith) (omega arith) (omega arith))
    (length_justified 8 r.timing.spacing (omega arith) (omega arith) (omega arith))
    (board_long form r h.boarded)
    ∙ ap (λ (k : ℕ). k + 1) (line_end form)

pub duty_back : (form : Form) (cycle place n : ℕ) (r : Record) (rest : List ℕ) → Writable form cycle r → duty_row form cycle place n (line_text form r ++ rest) ≡ Ok (row_at place r)
duty_back form cycle place n r rest w =
    let h = held form cycle r w in
    let bs = line_text form r ++ rest in
    let parts =
    cut 8 8 8 8 (board_width form) r.name.bytes (justified 8 r.timing.cost) (justified 8 r.timing.deadline) (justified 8 r.timing.spacing) (board_text form r)
    h.sized
    (length_justified 8 r.timing.cost (omega arith) (omega arith) (omega arith))
    (length_justified 8 r.timing.deadline (omega arith) (omega arith) (omega arith))
    (length_justified 8 r.timing.spacing (omega arith) (omega arith) (omega arith))
    (board_long form r h.boarded)
    (clean_name r.name.bytes (h.named ∙ sym h.sized))
    (clean_number 8 r.timing.cost (omega arith))
    (clean_number 8 r.timing.deadline (omega arith))
    (clean_number 8 r.timing.spacing (omega arith))
    (board_clean form r h.boarded)
    rest in
    let ended : ends (line_width form) bs ≡ true = ap (λ (k : ℕ). ends k bs) (sym (line_end form)) ∙ parts.ended in
    then_ok _ (due_back (line_width form) n bs ended)
    ∙ then_ok _ (name_at_back place n bs r.name.bytes parts.first h.named)
    ∙ then_ok _ (number_at_back cost_field n bs r.timing.cost refl (omega arith) (record { low = omega arith; high = omega arith }) parts.second)
    ∙ then_ok _ (number_at_back deadline_field n bs r.timing.deadline refl (omega arith) (record { low = omega arith; high = omega arith }) parts.third)
    ∙ then_ok _ (number_at_back spacing_field n bs r.timing.spacing refl (omega arith) (record { low = omega arith; high = omega arith }) parts.fourth)
    ∙ then_ok _ (board_at_back form n bs r h.boarded h.placeless parts.fifth)
    ∙ related_back cycle n (row_at place r) h.feasible h.constrained h.divides
