-- A number field: what is read of its bytes, and the bytes that a number is written as.
use Rattle.std.specs.Prelude.{◌≡◌, ℕ, ◌+◌, ◌-◌, ◌*◌, ◌^◌, ◌<◌, ◌≤◌, Bool, cond, ◌&&◌, List, [], ◌∷◌, ◌++◌, length, replicate, Some, None, decimal, Option, ◌==◌, nat_le}

-- 0 to 9
abbrev pub digit : ℕ → Bool
digit b = nat_le 48 b && nat_le b 57

-- the number n, with further digits after it
abbrev pub further : ℕ → List ℕ → Option ℕ
further n [] = Some n
further n (b ∷ bs) = cond (digit b) (further (n * 10 + (b - 48)) bs) None

-- a zero that stands alone
abbrev pub alone : List ℕ → Option ℕ
alone [] = Some 0
alone (b ∷ bs) = None

-- digits, with no zero before further ones
abbrev pub plain : List ℕ → Option ℕ
plain [] = None
plain (b ∷ bs) = cond (b == 48) (alone bs) (further 0 (b ∷ bs))

-- blanks, and then such digits
abbrev pub numeral : List ℕ → Option ℕ
numeral [] = None
numeral (b ∷ bs) = cond (b == 32) (numeral bs) (plain (b ∷ bs))

-- the most columns of a number
abbrev pub widest : ℕ
widest = 9

-- the number in these columns
abbrev pub number_in : List ℕ → Option ℕ
number_in bs = cond (nat_le (length bs) widest) (numeral bs) None

-- n in w columns, with blanks before it: the one text of a number
abbrev pub justified : ℕ → ℕ → List ℕ
justified w n = replicate (w - length (decimal n)) 32 ++ decimal n

-- n has at most w digits, and the output at least w columns
abbrev pub fits_in : ℕ → ℕ → List ℕ → Bool
fits_in w n out = nat_le w (length out) && nat_le (length (decimal n)) w

-- columns are read as n just where they hold n right-justified
pub record BothWays : Type 0 where
  pub back : (w n : ℕ) → 0 < w → w ≤ widest → n < 10 ^ w → number_in (justified w n) ≡ Some n
  pub only : (bs : List ℕ) (n : ℕ) → number_in bs ≡ Some n → (bs ≡ justified (length bs) n) × (n < 10 ^ length bs)
