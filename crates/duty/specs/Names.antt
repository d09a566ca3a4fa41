-- Which bytes may stand in a name's columns.
use Rattle.std.specs.Prelude.{◌≡◌, ℕ, suc, Bool, true, cond, ◌&&◌, ◌||◌, List, [], ◌∷◌, ◌++◌, length, replicate, ◌==◌, nat_le}
use Rattle.std.specs.List.{AllByRecursion}
use Rattle.duty.specs.Limits.{name_width}

-- A to Z or a digit
abbrev pub name_byte : ℕ → Bool
name_byte b = (nat_le 65 b && nat_le b 90) || (nat_le 48 b && nat_le b 57)

-- these or a hyphen
abbrev pub tail_byte : ℕ → Bool
tail_byte b = name_byte b || b == 45

-- how many bytes from the start are blanks
abbrev pub blanks_in : List ℕ → ℕ
blanks_in [] = 0
blanks_in (b ∷ bs) = cond (b == 32) (suc (blanks_in bs)) 0

-- how many bytes from the start may stand after the first of a name
abbrev pub tail_in : List ℕ → ℕ
tail_in [] = 0
tail_in (b ∷ bs) = cond (tail_byte b) (suc (tail_in bs)) (blanks_in (b ∷ bs))

-- how many bytes from the start may stand in a name
abbrev pub name_in : List ℕ → ℕ
name_in [] = 0
name_in (b ∷ bs) = cond (name_byte b) (suc (tail_in bs)) 0

-- all the bytes of a name's columns may stand there
abbrev pub named : List ℕ → Bool
named bs = name_in bs == name_width

-- the columns hold a stem, and then only blanks: the stem starts with A to Z or a digit, and goes on with these or hyphens
pub record Stem (bs : List ℕ) : Type 0 where
  pub first : ℕ
  pub others : List ℕ
  pub blanks : ℕ
  pub starts : name_byte first ≡ true
  pub goes_on : AllByRecursion (λ b. tail_byte b ≡ true) others
  pub whole : bs ≡ first ∷ (others ++ replicate blanks 32)

-- the columns hold a name just where they hold such a stem
pub record NamesAreStems : Type 0 where
  pub only : (bs : List ℕ) → length bs ≡ name_width → named bs ≡ true → Stem bs
  pub back : (bs : List ℕ) → length bs ≡ name_width → Stem bs → named bs ≡ true
