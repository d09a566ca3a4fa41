-- Which duties still wait, and what a seat changes.
use Rattle.std.proofs.Common.{◌≡◌, ℕ, zero, suc, ◌+◌, ◌<◌, ◌≤◌, cond, eqb, List, [], ◌∷◌, length, get_or, count_by, sym, refl, ap, ◌∙◌, ⊎_elim, arith}
use Rattle.std.proofs.lemmas.List.{get_or-set_same, get_or-set_other}
use Rattle.std.proofs.lemmas.List.Sums.{sum_by-cons}
use Rattle.std.proofs.lemmas.Bool.{cases_eq, cond-true, cond-false, eq-eqb, ne_eqb}
use Rattle.duty.specs.declared.records.Record.{Record}
use Rattle.boards.specs.Lists.{on_board, no_record}
use Rattle.placing.specs.declared.lined.Lined.{Lined}
use Rattle.placing.specs.FirstFit.{moved_to, seat, cleared}
use Rattle.placing.specs.Order.{lined}
use Rattle.placing.proofs.Taking.{at_index}

-- how often an index stands among entries

abbrev pub times : ℕ → List Lined → ℕ
times k es = count_by (λ e. eqb e.index k) es

pub times_first : (k : ℕ) (e : Lined) (es : List Lined) → e.index ≡ k → times k (e ∷ es) ≡ 1 + times k es
times_first k e es h = sum_by-cons (λ (x : Lined). cond (eqb x.index k) 1 0) e es ∙ ap (λ (n : ℕ). n + times k es) (cond-true _ _ _ (eq-eqb e.index k h))

pub times_other : (k : ℕ) (e : Lined) (es : List Lined) → (e.index ≡ k → ⊥) → times k (e ∷ es) ≡ times k es
times_other k e es h = sum_by-cons (λ (x : Lined). cond (eqb x.index k) 1 0) e es ∙ ap (λ (n : ℕ). n + times k es) (cond-false _ _ _ (ne_eqb e.index k h)) ∙ omega arith

times_none : (k j : ℕ) (rs : List Record) → k < j → times k (lined j rs) ≡ 0
times_none k j [] h = refl
times_none k j (r ∷ rs) h = times_other k (at_index r j) (lined (j + 1) rs) (λ e. omega arith) ∙ times_none k (j + 1) rs (omega arith)

pub times_once : (k j : ℕ) (rs : List Record) → j ≤ k → k < j + length rs → times k (lined j rs) ≡ 1
times_once k j [] l h = absurd (omega arith)
times_once k j (r ∷ rs) l h =
    ⊎_elim
    (λ same. times_first k (at_index r j) (lined (j + 1) rs) same ∙ ap (λ (n : ℕ). 1 + n) (times_none k (j + 1) rs (omega arith)))
    (λ other. times_other k (at_index r j) (lined (j + 1) rs) other ∙ times_once k (j + 1) rs (omega arith) (omega arith))
    (cases_eq j k)

-- records with no board

pub cleared_board : (rs : List Record) (k : ℕ) → (get_or (cleared rs) k no_record).board ≡ 0
cleared_board [] k = refl
cleared_board (r ∷ rs) zero = refl
cleared_board (r ∷ rs) (suc k) = cleared_board rs k

pub cleared_list : (rs : List Record) (b : ℕ) → 1 ≤ b → on_board b (cleared rs) ≡ []
cleared_list [] b h = refl
cleared_list (r ∷ rs) b h = cond-false _ _ _ (ne_eqb 0 b (λ e. omega arith)) ∙ cleared_list rs b h

pub cleared_twice : (rs : List Record) → cleared (cleared rs) ≡ cleared rs
cleared_twice [] = refl
cleared_twice (r ∷ rs) = ap (λ (l : List Record). moved_to r 0 ∷ l) (cleared_twice rs)

-- what a seat changes, and what not

pub seat_board : (rs : List Record) (i b : ℕ) → i < length rs → (get_or (seat rs i b) i no_record).board ≡ b
seat_board rs i b h = ap (λ (r : Record). r.board) (get_or-set_same rs i (moved_to (get_or rs i no_record) b) no_record h)

pub seat_other : (rs : List Record) (i k b : ℕ) → (k ≡ i → ⊥) → get_or (seat rs i b) k no_record ≡ get_or rs k no_record
seat_other rs i k b h = get_or-set_other rs i k (moved_to (get_or rs i no_record) b) no_record h

pub seat_duties : (rs : List Record) (i b : ℕ) → cleared (seat rs i b) ≡ cleared rs
seat_duties [] i b = refl
seat_duties (r ∷ rs) zero b = refl
seat_duties (r ∷ rs) (suc i) b = ap (λ (l : List Record). moved_to r 0 ∷ l) (seat_duties rs i b)

pub seat_lists : (rs : List Record) (i c b : ℕ) → ((get_or rs i no_record).board ≡ b → ⊥) → (c ≡ b → ⊥) → on_board b (seat rs i c) ≡ on_board b rs
seat_lists [] i c b p q = refl
seat_lists (r ∷ rs) zero c b p q = cond-false _ _ _ (ne_eqb c b q) ∙ sym (cond-false _ _ _ (ne_eqb r.board b p))
seat_lists (r ∷ rs) (suc i) c b p q = ap (λ l. cond (eqb r.board b) (r.timing ∷ l) l) (seat_lists rs i c b p q)
