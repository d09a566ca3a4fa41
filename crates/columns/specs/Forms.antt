-- What sets the two texts apart.
use Rattle.std.specs.Prelude.{ℕ, List, [], ◌∷◌}
use Rattle.columns.specs.declared.forms.Form.{Form}
use Rattle.columns.specs.declared.forms.Form.TheVariants.{Table, Plan}

-- RELAY, or PLAN and one blank
abbrev pub word : Form → List ℕ
word Table = 82 ∷ 69 ∷ 76 ∷ 65 ∷ 89 ∷ []
word Plan = 80 ∷ 76 ∷ 65 ∷ 78 ∷ 32 ∷ []

-- the columns of a duty's line
abbrev pub line_width : Form → ℕ
line_width Table = 32
line_width Plan = 35
