-- No byte past the one after the longest text changes what is read.
use Rattle.std.proofs.Common.{◌≡◌, ℕ, zero, suc, ◌+◌, ◌-◌, ◌*◌, ◌<◌, ◌≤◌, Bool, cond, not, ◌&&◌, eqb, ltb, List, [], ◌∷◌, length, take, drop, Ok, Err, Result, sym, refl, ap, ◌∙◌, mul-le-mul_left, mul-suc, arith}
use Rattle.std.proofs.lemmas.List.{take-take, drop-take, get_or-take}
use Rattle.std.proofs.lemmas.Bool.{ne_eqb, lt-ltb}
use Rattle.fault.specs.declared.Cause.TheVariants.{BadCharacter, BadLength, MissingLine, TrailingBytes, RecordsShort}
use Rattle.fault.specs.declared.Fault.{Fault}
use Rattle.fault.specs.declared.Layer.TheVariants as layer
use Rattle.fault.specs.Faults.{fault, then}
use Rattle.fault.proofs.Steps.{then_ok, then_err}
use Rattle.duty.specs.Heads.{Head}
use Rattle.duty.specs.Letters.{letter_of}
use Rattle.duty.specs.Names.{name_in}
use Rattle.columns.specs.declared.fields.Field.{Field}
use Rattle.columns.specs.declared.forms.Form.{Form}
use Rattle.columns.specs.declared.forms.Form.TheVariants.{Table, Plan}
use Rattle.columns.specs.Forms.{word, line_width}
use Rattle.columns.specs.Laws.{RestIsIdle}
use Rattle.columns.specs.Layout.{columns, boards_field, duties_field, cycle_field, cost_field, deadline_field, spacing_field, board_field}
use Rattle.columns.specs.Lines.{newline, ends, due, in_range, number_at, matched, word_at, letter_is, letter_at, header_line, name_at, board_at, related, duty_row}
use Rattle.columns.specs.Numerals.{number_in}
use Rattle.columns.specs.Tables.{record_of, records_of, sheet_of}
use Rattle.columns.specs.Texts.{longest_text}
use Rattle.columns.proofs.LineTrips.{header_only, limited}

-- parts of a text that is cut at m

ends_take : (w m : ℕ) (bs : List ℕ) → w < m → ends w (take m bs) ≡ ends w bs
ends_take w zero bs h = absurd (omega arith)
ends_take w (suc m) [] h = refl
ends_take zero (suc m) (b ∷ bs) h = refl
ends_take (suc w) (suc m) (b ∷ bs) h = ap (λ r. not (eqb b newline) && r) (ends_take w m bs (omega arith))

empty_take : (m : ℕ) (bs : List ℕ) → 0 < m → eqb (length (take m bs)) 0 ≡ eqb (length bs) 0
empty_take zero bs h = absurd (omega arith)
empty_take (suc m) [] h = refl
empty_take (suc m) (b ∷ bs) h = ne_eqb (length (take (suc m) (b ∷ bs))) 0 (λ e. omega arith) ∙ sym (ne_eqb (length (b ∷ bs)) 0 (λ e. omega arith))

some_take : (m : ℕ) (bs : List ℕ) → 0 < m → ltb 0 (length (take m bs)) ≡ ltb 0 (length bs)
some_take zero bs h = absurd (omega arith)
some_take (suc m) [] h = refl
some_take (suc m) (b ∷ bs) h = lt-ltb 0 (length (take (suc m) (b ∷ bs))) (omega arith) ∙ sym (lt-ltb 0 (length (b ∷ bs)) (omega arith))

matched_take : (ws : List ℕ) (m : ℕ) (bs : List ℕ) → length ws ≤ m → matched ws (take m bs) ≡ matched ws bs
matched_take [] m bs h = refl
matched_take (w ∷ ws) zero bs h = absurd (omega arith)
matched_take (w ∷ ws) (suc m) [] h = refl
matched_take (w ∷ ws) (suc m) (b ∷ bs) h = ap (λ k. cond (eqb b w) (suc k) 0) (matched_take ws m bs (omega arith))

pub drop_cut : (k m : ℕ) (bs : List ℕ) → k ≤ m → drop k (take m bs) ≡ take (m - k) (drop k bs)
drop_cut k m bs h =
    let whole : m ≡ k + (m - k) = omega arith in
    ap (λ (n : ℕ). drop k (take n bs)) whole ∙ drop-take k (m - k) bs

columns_take : (first last m : ℕ) (bs : List ℕ) → 1 ≤ first → first ≤ last → last ≤ m → columns first last (take m bs) ≡ columns first last bs
columns_take first last m bs a b c =
    ap (take (last - (first - 1))) (drop_cut (first - 1) m bs (omega arith)) ∙ take-take (last - (first - 1)) (m - (first - 1)) (drop (first - 1) bs) (omega arith)

-- checks over a text that is cut at m

abbrev due_by : ℕ → Bool → Bool → Result (Unit {0}) Fault
due_by line none ended =
    cond none (Err (fault MissingLine line 1 layer.Line)) (cond ended (Ok tt) (Err (fault BadLength line 1 layer.Line)))

due_take : (w line m : ℕ) (bs : List ℕ) → w < m → due w line (take m bs) ≡ due w line bs
due_take w line m bs h = λ i. due_by line (empty_take m bs (omega arith) i) (ends_take w m bs h i)

number_take : (f : Field) (line m : ℕ) (bs : List ℕ) → 1 ≤ f.first → f.first ≤ f.last → f.last ≤ m → number_at f line (take m bs) ≡ number_at f line bs
number_take f line m bs a b c = ap (λ cs. in_range f line (number_in cs)) (columns_take f.first f.last m bs a b c)

word_take : (ws : List ℕ) (line m : ℕ) (bs : List ℕ) → length ws ≤ m → word_at ws line (take m bs) ≡ word_at ws line bs
word_take ws line m bs h =
    ap (λ (k : ℕ). cond (ltb k (length ws)) (Err (fault BadCharacter line (k + 1) layer.Field)) (Ok tt)) (matched_take ws m bs h)

letter_take : (line m : ℕ) (bs : List ℕ) → 6 ≤ m → letter_at line (take m bs) ≡ letter_at line bs
letter_take line m bs h = ap (λ (b : ℕ). letter_is line (letter_of b)) (get_or-take m bs 5 0 (omega arith))

name_take : (place line m : ℕ) (bs : List ℕ) → 8 ≤ m → name_at place line (take m bs) ≡ name_at place line bs
name_take place line m bs h =
    ap (λ (cs : List ℕ). cond (ltb (name_in cs) 8) (Err (fault BadCharacter line (name_in cs + 1) layer.Field)) (Ok (record { bytes = cs; place = place })))
    (columns_take 1 8 m bs (omega arith) (omega arith) h)

board_take : (form : Form) (line m : ℕ) (bs : List ℕ) → line_width form ≤ m → board_at form line (take m bs) ≡ board_at form line bs
board_take Table line m bs h = refl
board_take Plan line m bs h = number_take board_field line m bs (omega arith) (omega arith) (omega arith)

word_length : (form : Form) → length (word form) ≡ 5
word_length Table = refl
word_length Plan = refl

at_least_32 : (form : Form) → 32 ≤ line_width form
at_least_32 Table = omega arith
at_least_32 Plan = omega arith

header_take : (form : Form) (line m : ℕ) (bs : List ℕ) → 20 < m → header_line form line (take m bs) ≡ header_line form line bs
header_take form line m bs h =
    let e1 = due_take 20 line m bs h in
    let e2 = word_take (word form) line m bs (omega (arith, word_length form)) in
    let e3 = letter_take line m bs (omega arith) in
    let e4 = number_take boards_field line m bs (omega arith) (omega arith) (omega arith) in
    let e5 = number_take duties_field line m bs (omega arith) (omega arith) (omega arith) in
    let e6 = number_take cycle_field line m bs (omega arith) (omega arith) (omega arith) in
    λ i. then (e1 i) (λ _. then (e2 i) (λ _. then (e3 i) (λ letter. then (e4 i) (λ boards. then (e5 i) (λ duties. then (e6 i) (λ cycle. Ok (record { letter = letter; boards = boards; duties = duties; cycle = cycle })))))))

duty_take : (form : Form) (cycle place line m : ℕ) (bs : List ℕ) → line_width form < m → duty_row form cycle place line (take m bs) ≡ duty_row form cycle place line bs
duty_take form cycle place line m bs h =
    let wide = at_least_32 form in
    let e1 = due_take (line_width form) line m bs h in
    let e2 = name_take place line m bs (omega arith) in
    let e3 = number_take cost_field line m bs (omega arith) (omega arith) (omega arith) in
    let e4 = number_take deadline_field line m bs (omega arith) (omega arith) (omega arith) in
    let e5 = number_take spacing_field line m bs (omega arith) (omega arith) (omega arith) in
    let e6 = board_take form line m bs (omega arith) in
    λ i. then (e1 i) (λ _. then (e2 i) (λ name. then (e3 i) (λ cost. then (e4 i) (λ deadline. then (e5 i) (λ spacing. then (e6 i) (λ board. related cycle line (record { name = name; timing = record { cost = cost; deadline = deadline; spacing = spacing }; board = board })))))))

records_take : (form : Form) (n cycle place line m : ℕ) (bs : List ℕ) → (line_width form + 1) * n < m → records_of form n cycle place line (take m bs) ≡ records_of form n cycle place line bs
records_take form zero cycle place line m bs h =
    ap (λ b. cond b (Err (fault TrailingBytes line 1 layer.Table)) (Ok [])) (some_take m bs (omega arith))
records_take form (suc n) cycle place line m bs h =
    let w = line_width form + 1 in
    let more = mul-suc w n in
    let one = duty_take form cycle place line m bs (omega arith) in
    let rest = ap (records_of form n cycle (place + w) (line + 1)) (drop_cut w m bs (omega arith)) ∙ records_take form n cycle (place + w) (line + 1) (m - w) (drop w bs) (omega arith) in
    λ i. then (one i) (λ r. then (rest i) (λ rs. Ok (record_of r ∷ rs)))

-- the whole text

module _ (form : Form) (room m : ℕ) (bs : List ℕ) (h : longest_text form + 1 ≤ m) where
  by_header : (r : Result Head Fault) → header_line form 1 bs ≡ r → sheet_of form room (take m bs) ≡ sheet_of form room bs
  by_header (Err f) e = then_err _ (header_take form 1 m bs (omega arith) ∙ e) ∙ sym (then_err _ e)
  by_header (Ok x) e =
      let few = (limited x (header_only form 1 bs x e).1).duties.high in
      let w = line_width form + 1 in
      let bound : w * x.duties ≤ w * 64 = mul-le-mul_left w few in
      let rest : records_of form x.duties x.cycle 21 2 (drop 21 (take m bs)) ≡ records_of form x.duties x.cycle 21 2 (drop 21 bs) =
      ap (records_of form x.duties x.cycle 21 2) (drop_cut 21 m bs (omega arith))
      ∙ records_take form x.duties x.cycle 21 2 (m - 21) (drop 21 bs) (omega arith) in
      then_ok _ (header_take form 1 m bs (omega arith) ∙ e)
      ∙ ap (λ rs. cond (ltb room x.duties) (Err (fault RecordsShort 1 10 layer.Table)) (then rs (λ ys. Ok (record { head = x; rows = ys })))) rest
      ∙ sym (then_ok _ e)

pub rest_is_idle : RestIsIdle
rest_is_idle form room m bs h = by_header form room m bs h (header_line form 1 bs) refl
