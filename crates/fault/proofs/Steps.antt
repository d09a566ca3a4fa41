-- Steps that follow one another: forward from what each answers, and back from a good end.
use Rattle.std.proofs.Common.{◌≡◌, ℕ, Bool, true, false, cond, Ok, Err, Result, refl, ap, arith}
use Rattle.fault.specs.declared.Fault.{Fault}
use Rattle.fault.specs.Faults.{then}

-- a refusal is no good end
pub never : {A B : Type 0} {f : B} {x : A} → Err f ≡ Ok x → ⊥
never e = let z : ◌≡◌ {A = ℕ} 0 1 = cc in omega arith

pub then_ok : {A B : Type 0} {m : Result A Fault} {x : A} (k : A → Result B Fault) → m ≡ Ok x → then m k ≡ k x
then_ok k e = ap (λ n. then n k) e

pub then_err : {A B : Type 0} {m : Result A Fault} {f : Fault} (k : A → Result B Fault) → m ≡ Err f → then m k ≡ Err f
then_err k e = ap (λ n. then n k) e

-- two steps that came to a good end: the first came to one too, and the second went on from it
pub then_back : {A B C : Type 0} (m : Result A Fault) (k : A → Result B Fault) (y : B) → then m k ≡ Ok y → ((x : A) → m ≡ Ok x → k x ≡ Ok y → C) → C
then_back (Ok x) k y e go = go x refl e
then_back (Err f) k y e go = absurd (never e)

-- what a check lets through: one that refuses where its test is true, and one that refuses where it is false
pub passed_unless : {A : Type 0} (b : Bool) (m : Result A Fault) (f : Fault) (y : A) → cond b (Err f) m ≡ Ok y → (b ≡ false) × (m ≡ Ok y)
passed_unless true m f y e = absurd (never e)
passed_unless false m f y e = (refl, e)

pub passed_where : {A : Type 0} (b : Bool) (m : Result A Fault) (f : Fault) (y : A) → cond b m (Err f) ≡ Ok y → (b ≡ true) × (m ≡ Ok y)
passed_where true m f y e = (refl, e)
passed_where false m f y e = absurd (never e)
