-- The letter of a header, and the byte that stands for it.
use Rattle.std.specs.Prelude.{◌≡◌, ℕ, cond, Some, None, Option, Result, IfErr, ◌==◌}
use Rattle.std.specs.Result.{result_ok}
use Rattle.duty.specs.declared.letters.Letter.{Letter}
use Rattle.duty.specs.declared.letters.NoLetter.{NoLetter}
use Rattle.duty.specs.declared.letters.Letter.TheVariants.{Density, Slope, Exact}

-- D, S or E
abbrev pub letter_byte : Letter → ℕ
letter_byte Density = 68
letter_byte Slope = 83
letter_byte Exact = 69

-- the letter that a byte stands for
abbrev pub letter_of : ℕ → Option Letter
letter_of b =
    cond (b == letter_byte Density) (Some Density) (cond (b == letter_byte Slope) (Some Slope) (cond (b == letter_byte Exact) (Some Exact) None))

-- the byte is the letter's
abbrev pub StandsFor : Letter → ℕ → Type 0
StandsFor l b = b ≡ letter_byte l

-- the letter that the byte stands for, or the byte, if it stands for none
abbrev pub Reads : ℕ → Result Letter NoLetter → Type 0
Reads b r = (result_ok r ≡ letter_of b) × IfErr r (λ e. e.0 ≡ b)
