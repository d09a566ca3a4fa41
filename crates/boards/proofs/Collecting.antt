-- The steps of the loops that collect a board's list.
use Rattle.std.proofs.Common.{◌≡◌, ℕ, ◌+◌, ◌<◌, ◌≤◌, eqb, List, [], ◌∷◌, ◌++◌, length, get_or, take, drop, set, Some, None, Option, sym, refl, ap, ◌∙◌, ⊎_elim, append_assoc, arith, length-append, take-append-drop, MatchOption}
use Rattle.std.proofs.lemmas.List.{at_drop_more, take_more_set, length-take-le}
use Rattle.std.proofs.lemmas.Bool.{cond-true, cond-false, cases_Bool, eq-eqb}
use Rattle.duty.specs.declared.records.Record.{Record}
use Rattle.duty.specs.declared.timings.Timing.{Timing}
use Rattle.boards.specs.Lists.{on_board}

-- of the record at i, where `whole` is what is collected in the end
module _ (rs : List Record) (b i : ℕ) (d : Record) (within : i < length rs) where
  here : (get_or rs i d).board ≡ b → on_board b (drop i rs) ≡ (get_or rs i d).timing ∷ on_board b (drop (i + 1) rs)
  here e = at_drop_more (on_board b) rs i d within ∙ cond-true _ _ _ (eq-eqb _ _ e)

  pub collects : (list whole : List Timing) (n : ℕ) → n < length list → (get_or rs i d).board ≡ b → take n list ++ on_board b (drop i rs) ≡ whole → take (n + 1) (set list n (get_or rs i d).timing) ++ on_board b (drop (i + 1) rs) ≡ whole
  collects list whole n room e inv =
      let x = (get_or rs i d).timing in
      let rest = on_board b (drop (i + 1) rs) in
      ap (λ l. l ++ rest) (take_more_set list n x room)
      ∙ append_assoc (take n list) (x ∷ []) rest
      ∙ ap (λ l. take n list ++ l) (sym (here e))
      ∙ inv

  pub too_many : (list whole : List Timing) (n : ℕ) → n ≡ length list → (get_or rs i d).board ≡ b → take n list ++ on_board b (drop i rs) ≡ whole → length list < length whole
  too_many list whole n full e inv =
      let front = length-take-le n list (omega arith) in
      omega (arith, ap length inv, length-append (take n list) (on_board b (drop i rs)), ap length (here e), front)

-- the list of a board is that of the first records, and then that of the others
pub on_board_append : (b : ℕ) (xs ys : List Record) → on_board b (xs ++ ys) ≡ on_board b xs ++ on_board b ys
on_board_append b [] ys = refl
on_board_append b (x ∷ xs) ys =
    let t = eqb x.board b in
    let more = on_board_append b xs ys in
    ⊎_elim
    (λ on. cond-true t _ _ on ∙ ap (λ l. x.timing ∷ l) more ∙ ap (λ l. l ++ on_board b ys) (sym (cond-true t _ _ on)))
    (λ off. cond-false t _ _ off ∙ more ∙ ap (λ l. l ++ on_board b ys) (sym (cond-false t _ _ off)))
    (cases_Bool t)

pub in_parts : (b k : ℕ) (rs : List Record) → on_board b (take k rs) ++ on_board b (drop k rs) ≡ on_board b rs
in_parts b k rs = sym (on_board_append b (take k rs) (drop k rs)) ∙ ap (on_board b) (take-append-drop k rs)

-- a block of k records of those left, where n timings are collected of the ones before
module _ (rs left block : List Record) (b k n : ℕ) (list : List Timing) (first : block ≡ take k left) (inv : take n list ++ on_board b left ≡ on_board b rs) where
  pub takes_block : (rest : List Record) (after : List Timing) (m : ℕ) → rest ≡ drop k left → take m after ≡ take n list ++ on_board b block → take m after ++ on_board b rest ≡ on_board b rs
  takes_block rest after m others added =
      ap (λ l. l ++ on_board b rest) added
      ∙ append_assoc (take n list) (on_board b block) (on_board b rest)
      ∙ ap (λ l. take n list ++ l) ((λ i. on_board b (first i) ++ on_board b (others i)) ∙ in_parts b k left)
      ∙ inv

  pub block_too_long : n ≤ length list → length list < n + length (on_board b block) → length list < length (on_board b rs)
  block_too_long within long =
      let parts = length-append (on_board b (take k left)) (on_board b (drop k left)) in
      omega (arith, long, ap length inv, length-append (take n list) (on_board b left), length-take-le n list within, ap length (in_parts b k left), parts, ap (λ l. length (on_board b l)) first)

pub cases_map : {A : Type 0} {P P' : Type 0} {Q Q' : A → Type 0} (o : Option A) → (P → P') → ((x : A) → Q x → Q' x) → MatchOption o P Q → MatchOption o P' Q'
cases_map (Some x) none some h = some x h
cases_map None none some h = none h
