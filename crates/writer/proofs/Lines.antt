-- A line's fields, put at their columns, are the line's text.
use Rattle.std.proofs.Common.{◌≡◌, ℕ, ◌+◌, ◌*◌, ◌<◌, ◌≤◌, true, List, [], ◌∷◌, ◌++◌, length, take, sym, refl, ap, ◌∙◌, append_assoc, mul-le-mul_left, mul-one, mul-add, mul-suc, arith, length-append, length-take}
use Rattle.std.specs.List.{flat_map, AllByRecursion}
use Rattle.std.proofs.ByRecursion.{All-take}
use Rattle.duty.specs.declared.records.Record.{Record}
use Rattle.duty.specs.Heads.{Head, head_limits}
use Rattle.duty.specs.Letters.{letter_byte}
use Rattle.duty.specs.Limits.{longest}
use Rattle.columns.specs.declared.forms.Form.{Form}
use Rattle.columns.specs.declared.forms.Form.TheVariants.{Table, Plan}
use Rattle.columns.specs.Forms.{word, line_width}
use Rattle.columns.specs.Lines.{newline}
use Rattle.columns.specs.Numerals.{justified}
use Rattle.columns.specs.Texts.{header_text, board_text, line_text}
use Rattle.columns.proofs.Justified.{length_justified}
use Rattle.columns.proofs.LineTrips.{limited}
use Rattle.columns.proofs.Segments.{line, length_line}
use Rattle.writer.specs.Puts.{put, Fitting, Sized}
use Rattle.writer.proofs.Parts.{put_nothing, put_next}

-- five segments and the end byte, each put after those before it, are the line
module _ (pos v w x y z : ℕ) (a b c d e out : List ℕ) (la : length a ≡ v) (lb : length b ≡ w) (lc : length c ≡ x) (ld : length d ≡ y) (le : length e ≡ z) (room : pos ≤ length out) where
  line_put : put (pos + (v + w + x + y + z)) (newline ∷ []) (put (pos + (v + w + x + y)) e (put (pos + (v + w + x)) d (put (pos + (v + w)) c (put (pos + v) b (put (pos + 0) a out))))) ≡ put pos (line a b c d e) out
  line_put =
      let nothing = sym (put_nothing pos out) in
      let s1 = put_next pos (pos + 0) [] a out out nothing (omega arith) room in
      let s2 = put_next pos (pos + v) a b _ out s1 (omega arith) room in
      let s3 = put_next pos (pos + (v + w)) (a ++ b) c _ out s2 (omega (arith, length-append {A = ℕ})) room in
      let s4 = put_next pos (pos + (v + w + x)) ((a ++ b) ++ c) d _ out s3 (omega (arith, length-append {A = ℕ})) room in
      let s5 = put_next pos (pos + (v + w + x + y)) (((a ++ b) ++ c) ++ d) e _ out s4 (omega (arith, length-append {A = ℕ})) room in
      let s6 = put_next pos (pos + (v + w + x + y + z)) ((((a ++ b) ++ c) ++ d) ++ e) (newline ∷ []) _ out s5 (omega (arith, length-append {A = ℕ})) room in
      s6 ∙ simp append_assoc refl

-- numbers of three and of eight columns
three : (n : ℕ) → n ≤ 999 → length (justified 3 n) ≡ 3
three n below = length_justified 3 n (omega arith) (omega arith) (omega arith)

eight : (n : ℕ) → n ≤ longest → length (justified 8 n) ≡ 8
eight n below = length_justified 8 n (omega arith) (omega arith) (omega arith)

length_word : (form : Form) → length (word form) ≡ 5
length_word Table = refl
length_word Plan = refl

-- a header
pub header_put : (form : Form) (h : Head) → head_limits h ≡ true → (pos : ℕ) (out : List ℕ) → pos ≤ length out → put (pos + 20) (newline ∷ []) (put (pos + 12) (justified 8 h.cycle) (put (pos + 9) (justified 3 h.duties) (put (pos + 6) (justified 3 h.boards) (put (pos + 5) (letter_byte h.letter ∷ []) (put (pos + 0) (word form) out))))) ≡ put pos (header_text form h) out
header_put form h limits pos out room =
    let l = limited h limits in
    line_put pos 5 1 3 3 8 (word form) (letter_byte h.letter ∷ []) (justified 3 h.boards) (justified 3 h.duties) (justified 8 h.cycle) out (length_word form) refl (three h.boards (omega arith)) (three h.duties (omega arith)) (eight h.cycle (omega arith)) room

-- a duty's line
module _ (r : Record) (fits : Fitting r) (sized : Sized r) where
  cost : length (justified 8 r.timing.cost) ≡ 8
  cost = eight r.timing.cost fits.cost

  deadline : length (justified 8 r.timing.deadline) ≡ 8
  deadline = eight r.timing.deadline fits.deadline

  spacing : length (justified 8 r.timing.spacing) ≡ 8
  spacing = eight r.timing.spacing fits.spacing

  board : length (justified 3 r.board) ≡ 3
  board = let few = fits.board in three r.board (omega arith)

  pub length_duty_line : (form : Form) → length (line_text form r) ≡ line_width form + 1
  length_duty_line Table = length_line 8 8 8 8 0 r.name.bytes (justified 8 r.timing.cost) (justified 8 r.timing.deadline) (justified 8 r.timing.spacing) [] sized cost deadline spacing refl
  length_duty_line Plan = length_line 8 8 8 8 3 r.name.bytes (justified 8 r.timing.cost) (justified 8 r.timing.deadline) (justified 8 r.timing.spacing) (justified 3 r.board) sized cost deadline spacing board

  pub duty_put : (form : Form) (pos : ℕ) (out : List ℕ) → pos ≤ length out → put (pos + line_width form) (newline ∷ []) (put (pos + 32) (board_text form r) (put (pos + 24) (justified 8 r.timing.spacing) (put (pos + 16) (justified 8 r.timing.deadline) (put (pos + 8) (justified 8 r.timing.cost) (put (pos + 0) r.name.bytes out))))) ≡ put pos (line_text form r) out
  duty_put Table pos out room = line_put pos 8 8 8 8 0 r.name.bytes (justified 8 r.timing.cost) (justified 8 r.timing.deadline) (justified 8 r.timing.spacing) [] out sized cost deadline spacing refl room
  duty_put Plan pos out room = line_put pos 8 8 8 8 3 r.name.bytes (justified 8 r.timing.cost) (justified 8 r.timing.deadline) (justified 8 r.timing.spacing) (justified 3 r.board) out sized cost deadline spacing board room

-- how long the lines of records are
pub length_lines : (form : Form) (rs : List Record) → AllByRecursion Fitting rs → AllByRecursion Sized rs → length (flat_map (line_text form) rs) ≡ (line_width form + 1) * length rs
length_lines form [] fits sized = omega arith
length_lines form (r ∷ rs) fits sized =
    length-append (line_text form r) (flat_map (line_text form) rs)
    ∙ omega (arith, length_duty_line r fits.0 sized.0 form, length_lines form rs fits.1 sized.1, mul-suc (line_width form + 1) (length rs))

-- a row, for the places past a list: the one that a loop's element has
abbrev pub blank : Record
blank = record { name = record { bytes = [] }; timing = record { cost = 0; deadline = 0; spacing = 0 }; board = 0 }

-- a line that is due has room where all have it
pub line_room : (form : Form) (rs : List Record) (i : ℕ) → i < length rs → AllByRecursion Fitting rs → AllByRecursion Sized (take i rs) → length (flat_map (line_text form) (take i rs)) + (line_width form + 1) ≤ (line_width form + 1) * length rs
line_room form rs i within fits sized =
    let w = line_width form + 1 in
    let here : length (take i rs) ≡ i = omega (arith, length-take i rs) in
    let so_far = length_lines form (take i rs) (All-take Fitting i rs fits) sized ∙ ap (λ (n : ℕ). w * n) here in
    let one_more : w * (i + 1) ≤ w * length rs = mul-le-mul_left w (omega arith) in
    omega (arith, mul-add w i 1, mul-one w)
