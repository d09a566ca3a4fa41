-- Reading a script line by line.
use Rattle.std.proofs.Common.{◌≡◌, ℕ, ◌+◌, ◌<◌, ◌≤◌, min, not, List, [], ◌∷◌, ◌++◌, length, get_or, take, ◌==◌, ◌≢◌, ◌⊎◌, Some, None, Option, MatchOption, Bor, inl, inr, ⊎_elim, sym, ap, ◌∙◌, refl, arith}
use Rattle.std.specs.List.{IsFirstMatchOrLen}
use Rattle.std.specs.Option.{unwrap_or}
use Rattle.std.proofs.lemmas.Bool.{cases_lt, eqb-true}
use Rattle.std.proofs.lemmas.List.{take_at, take_more, get_or_at, append_assoc, append_cancel_right, length-append}
use Rattle.std.proofs.lemmas.List.Sums.{prefix_len_is}
use Rattle.trials.specs.declared.commands.Command.{Command}
use Rattle.trials.specs.Commands.{command_text}
use Rattle.trials.specs.Scripts.{script_text, first_line}

nothing_after : (a b : List ℕ) → length b ≡ 0 → a ++ b ≡ a
nothing_after [] [] e = refl
nothing_after [] (x ∷ b) e = absurd (omega arith)
nothing_after (x ∷ a) b e = ap (λ (xs : List ℕ). x ∷ xs) (nothing_after a b e)

-- a piece of a text that is cut behind its end bytes, and its line
pub record IsLine (left piece after line : List ℕ) : Type 0 where
  pub first : line ≡ first_line left
  pub ended : (piece ≡ line ++ (10 ∷ [])) ⊎ ((piece ≡ line) × (length after ≡ 0))

-- where there is an end byte, the piece goes up to it
up_to_end : (left piece after : List ℕ) (i : ℕ) → left ≡ piece ++ after → length piece ≡ i + 1 → i < length left → IsFirstMatchOrLen (λ b. b == 10) left i → piece ≡ take i left ++ (10 ∷ [])
up_to_end left piece after i whole long inside first =
    sym (take_at piece after (i + 1) long)
    ∙ ap (take (i + 1)) (sym whole)
    ∙ take_more left i 0 inside
    ∙ ap (λ (b : ℕ). take i left ++ (b ∷ [])) (eqb-true (get_or left i 0) 10 (first.1 inside 0))

first_inside : (left : List ℕ) (i : ℕ) → i < length left → IsFirstMatchOrLen (λ b. b == 10) left i → first_line left ≡ take i left
first_inside left i inside first =
    ap (λ (n : ℕ). take n left) (prefix_len_is (λ b. not (b == 10)) left i 0 (omega arith) (λ k before. ap not (first.0 k 0 (omega arith) before)) (λ _. ap not (first.1 inside 0)))

first_whole : (left : List ℕ) (i : ℕ) → length left ≤ i → IsFirstMatchOrLen (λ b. b == 10) left i → first_line left ≡ take (length left) left
first_whole left i outside first =
    ap (λ (n : ℕ). take n left) (prefix_len_is (λ b. not (b == 10)) left (length left) 0 (omega arith) (λ k before. ap not (first.0 k 0 (omega arith) (omega arith))) (λ past. absurd (omega arith)))

-- no piece ends in an end byte where there is none
no_end : (left after line : List ℕ) (i : ℕ) → left ≡ (line ++ (10 ∷ [])) ++ after → length left ≤ i → IsFirstMatchOrLen (λ b. b == 10) left i → ⊥
no_end left after line i whole outside first =
    let shape = whole ∙ append_assoc line (10 ∷ []) after in
    let long = ap length shape ∙ length-append line (10 ∷ after) in
    let here = ap (λ (xs : List ℕ). get_or xs (length line) 0) shape ∙ get_or_at line 10 after 0 (length line) refl in
    let none = first.0 (length line) 0 (omega arith) (omega (arith, long)) in
    let clash = sym (ap (λ (b : ℕ). b == 10) here) ∙ none in
    let z : ◌≡◌ {A = ℕ} 0 1 = cc in
    omega arith

pub line_of : (left after : List ℕ) (piece : Bor (List ℕ)) (i : ℕ) (r : Option (Bor (List ℕ))) → left ≡ piece.now ++ after → length piece.now ≡ min (i + 1) (length left) → IsFirstMatchOrLen (λ b. b == 10) left i → MatchOption r ((front : List ℕ) → piece.now ≢ front ++ (10 ∷ [])) (λ y. piece.now ≡ y.now ++ (10 ∷ [])) → IsLine left piece.now after (unwrap_or r piece).now
line_of left after piece i (Some y) whole long first cut =
    ⊎_elim
    (λ inside. record {
      first = append_cancel_right y.now (take i left) (10 ∷ []) (sym cut ∙ up_to_end left piece.now after i whole (omega (arith, long)) inside first) ∙ sym (first_inside left i inside first);
      ended = inl cut;
    })
    (λ outside. absurd (no_end left after y.now i (whole ∙ ap (λ (xs : List ℕ). xs ++ after) cut) outside first))
    (cases_lt i (length left))
line_of left after piece i None whole long first cut =
    ⊎_elim
    (λ inside. absurd (cut (take i left) (up_to_end left piece.now after i whole (omega (arith, long)) inside first)))
    (λ outside.
    let all : length piece.now ≡ length left = omega (arith, long) in
    record {
      first = sym (take_at piece.now after (length left) all) ∙ ap (take (length left)) (sym whole) ∙ sym (first_whole left i outside first);
      ended = inr (refl, omega (arith, all, ap length whole ∙ length-append piece.now after));
    })
    (cases_lt i (length left))

-- what is left to read stands behind the text of the commands read
abbrev pub Reading : List ℕ → List Command → List ℕ → Type 0
Reading text cs left = (text ≡ script_text cs ++ left) ⊎ ((length left ≡ 0) × (text ++ (10 ∷ []) ≡ script_text cs))

pub starts : (text : List ℕ) (cs : List Command) (left : List ℕ) → cs ≡ [] → left ≡ text → Reading text cs left
starts text cs left none same = inl (sym same ∙ ap (λ (xs : List Command). script_text xs ++ left) (sym none))

script_push : (cs : List Command) (c : Command) → script_text (cs ++ (c ∷ [])) ≡ script_text cs ++ (command_text c ++ (10 ∷ []))
script_push [] c = refl
script_push (x ∷ cs) c =
    ap (λ (xs : List ℕ). command_text x ++ (10 ∷ xs)) (script_push cs c)
    ∙ sym (append_assoc (command_text x) (10 ∷ script_text cs) (command_text c ++ (10 ∷ [])))

pub goes_on : (text : List ℕ) (cs more : List Command) (c : Command) (left piece after line : List ℕ) → Reading text cs left → more ≡ cs ++ (c ∷ []) → left ≡ piece ++ after → 0 < length left → IsLine left piece after line → command_text c ≡ line → Reading text more after
goes_on text cs more c left piece after line reading pushed whole some is says =
    let read = ap script_text pushed ∙ script_push cs c ∙ ap (λ (xs : List ℕ). script_text cs ++ (xs ++ (10 ∷ []))) says in
    ⊎_elim
    (λ before. ⊎_elim
    (λ ended. inl (
    before
    ∙ ap (λ (xs : List ℕ). script_text cs ++ xs) (whole ∙ ap (λ (xs : List ℕ). xs ++ after) ended)
    ∙ sym (append_assoc (script_text cs) (line ++ (10 ∷ [])) after)
    ∙ ap (λ (xs : List ℕ). xs ++ after) (sym read)
    ))
    (λ last. inr (
      last.1,
      ap (λ (xs : List ℕ). xs ++ (10 ∷ [])) (before ∙ ap (λ (xs : List ℕ). script_text cs ++ xs) (whole ∙ nothing_after piece after last.1 ∙ last.0))
          ∙ append_assoc (script_text cs) line (10 ∷ [])
          ∙ sym read,
    ))
    is.ended)
    (λ over. absurd (omega (arith, over.0)))
    reading

pub ends : (text : List ℕ) (cs : List Command) (left : List ℕ) → Reading text cs left → length left ≡ 0 → (text ≡ script_text cs) ⊎ (text ++ (10 ∷ []) ≡ script_text cs)
ends text cs left reading nothing =
    ⊎_elim
    (λ before. inl (before ∙ nothing_after (script_text cs) left nothing))
    (λ over. inr over.1)
    reading

pub stops : (text : List ℕ) (cs : List Command) (left : List ℕ) → Reading text cs left → 0 < length left → text ≡ script_text cs ++ left
stops text cs left reading some = ⊎_elim (λ before. before) (λ over. absurd (omega (arith, over.0))) reading
