-- The loop that looks for the first place, and what a refused place leaves.
use Rattle.std.proofs.Common.{◌≡◌, ℕ, ◌+◌, ◌<◌, ◌≤◌, ltb, List, length, get_or, drop, set, None, Err, Option, sym, ap, ◌∙◌, ⊎_elim, arith}
use Rattle.std.specs.Option.{option_map}
use Rattle.std.proofs.lemmas.List.{at_drop_more, at_drop_all, set_past}
use Rattle.std.proofs.lemmas.Bool.{cases_Bool, cond-true, ltb-false}
use Rattle.fault.specs.declared.Fault.{Fault}
use Rattle.fault.proofs.Steps.{never}
use Rattle.queue.specs.First.{Due, earlier, scan, earliest}
use Rattle.queue.specs.Places.{places, place_fault}

pub scan_more : (held : List (Option ℕ)) (i : ℕ) (best next whole : Option Due) (d : Option ℕ) → i < length held → scan best i (drop i held) ≡ whole → next ≡ earlier best i (get_or held i d) → scan next (i + 1) (drop (i + 1) held) ≡ whole
scan_more held i best next whole d h inv is =
    let e : scan best i (drop i held) ≡ scan (earlier best i (get_or held i d)) (i + 1) (drop (i + 1) held) = at_drop_more (scan best i) held i d h in
    ap (λ b. scan b (i + 1) (drop (i + 1) held)) is ∙ sym e ∙ inv

pub scan_all : (held : List (Option ℕ)) (i : ℕ) (best : Option Due) → length held ≤ i → scan best i (drop i held) ≡ scan None 0 held → option_map (λ e. e.place) best ≡ earliest held
scan_all held i best h inv = ap (option_map (λ e. e.place)) (sym (at_drop_all (scan best i) held i h) ∙ inv)

-- a refused place lies past the row, where setting changes nothing
pub refused_keeps : (held : List (Option ℕ)) (place : ℕ) (x : Option ℕ) (f : Fault) → length held ≡ places → Err f ≡ place_fault place → held ≡ set held place x
refused_keeps held place x f wide e =
    ⊎_elim
    (λ t. absurd (never (e ∙ cond-true (ltb place places) _ _ t)))
    (λ t. sym (set_past held place x (omega (arith, ltb-false place places t))))
    (cases_Bool (ltb place places))
