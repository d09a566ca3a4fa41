-- The order of entries that go by a pair of numbers: the smaller first number leaves first, and of equal ones the smaller second.
use Rattle.std.specs.Prelude.{◌≡◌, ℕ, Bool, true, false, ◌&&◌, ◌||◌, List, [], ◌∷◌, ◌==◌, nat_le, nat_lt}
use Rattle.std.proofs.Common.{rules}

-- p may leave before q, or is level with it
abbrev pub pair_upto : ℕ × ℕ → ℕ × ℕ → Bool
pair_upto p q = nat_lt p.0 q.0 || (p.0 == q.0 && nat_le p.1 q.1)

abbrev pub pair_key : ℕ × ℕ → List ℕ
pair_key p = p.0 ∷ p.1 ∷ []

-- lemmas: the laws of an entry
pub pair_total : (p q : ℕ × ℕ) → pair_upto p q ≡ false → pair_upto q p ≡ true
pair_total p q e = search rules

pub pair_chain : (p q r : ℕ × ℕ) → pair_upto p q ≡ true → pair_upto q r ≡ true → pair_upto p r ≡ true
pair_chain p q r e f = search rules

pub pair_level : (p q : ℕ × ℕ) → pair_upto p q ≡ true → pair_upto q p ≡ true → pair_key p ≡ pair_key q
pair_level p q e f = search rules
