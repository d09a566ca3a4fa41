-- What is certain of the scratch memory.
use Rattle.std.specs.Prelude.{◌≡◌, ℕ, List, length, drop}
use Rattle.placing.specs.declared.lined.Lined.{Lined}

-- as many entries as before, and those past the first n as they were
pub record Past (n : ℕ) (before after : List Lined) : Type 0 where
  pub long : length after ≡ length before
  pub rest : drop n after ≡ drop n before
