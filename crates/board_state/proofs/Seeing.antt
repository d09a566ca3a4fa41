-- A place of a state is written.
use Rattle.std.proofs.Common.{◌≡◌, ℕ, zero, suc, Bool, true, List, [], ◌∷◌, take, set, refl, ap}
use Rattle.std.proofs.lemmas.Bool.{and_parts, and_from}
use Rattle.gauge.specs.Each.{each}

-- what is tested of each place holds where one is replaced for which it holds
pub each_set : {A : Type 0} (test : A → Bool) (xs : List A) (i : ℕ) (y : A) → test y ≡ true → each test xs ≡ true → each test (set xs i y) ≡ true
each_set test [] i y h e = e
each_set test (x ∷ xs) zero y h e = and_from _ _ h (and_parts (test x) (each test xs) e).1
each_set test (x ∷ xs) (suc i) y h e =
    let a = and_parts (test x) (each test xs) e in
    and_from _ _ a.0 (each_set test xs i y h a.1)

-- writing a place, before or after the first n are taken
pub take_set_in : {A : Type 0} (n : ℕ) (xs : List A) (i : ℕ) (y : A) → take n (set xs i y) ≡ set (take n xs) i y
take_set_in zero xs i y = refl
take_set_in (suc n) [] i y = refl
take_set_in (suc n) (x ∷ xs) zero y = refl
take_set_in {A} (suc n) (x ∷ xs) (suc i) y = ap (λ (l : List A). x ∷ l) (take_set_in n xs i y)
