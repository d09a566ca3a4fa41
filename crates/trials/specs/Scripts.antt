-- What the lines after a plan are read as.
use Rattle.std.specs.Prelude.{◌≡◌, ℕ, ◌<◌, List, [], ◌∷◌, ◌++◌, length, take, Result, MatchResult, ◌≢◌, ◌⊎◌, ◌==◌}
use Rattle.std.specs.List.{position_or_len}
use Rattle.trials.specs.declared.commands.Command.{Command}
use Rattle.trials.specs.declared.commands.NoCommand.{NoCommand}
use Rattle.trials.specs.Commands.{command_text, ShortCommand}

-- the text of these commands, each on a line of its own
abbrev pub script_text : List Command → List ℕ
script_text [] = []
script_text (c ∷ cs) = command_text c ++ (10 ∷ script_text cs)

-- all before the first end byte
abbrev pub first_line : List ℕ → List ℕ
first_line bs = take (position_or_len (λ b. b == 10) bs) bs

-- a line comes, and it is the text of no command
pub record NoCommandNext (left : List ℕ) : Type 0 where
  pub some : 0 < length left
  pub none : (c : Command) → ShortCommand c → command_text c ≢ first_line left

-- the text of the commands is all that was read, where the last line may lack its end byte
abbrev pub Whole : List ℕ → List Command → Type 0
Whole text cs = (text ≡ script_text cs) ⊎ (text ++ (10 ∷ []) ≡ script_text cs)

-- or it is all before a line that is no command
pub record Cut (text : List ℕ) (cs : List Command) : Type 0 where
  pub left : List ℕ
  pub before : text ≡ script_text cs ++ left
  pub next : NoCommandNext left

-- what a script's commands and its end say of its text
abbrev pub IsScript : List ℕ → List Command → Result (Unit {0}) NoCommand → Type 0
IsScript text cs end = MatchResult end (λ _. Whole text cs) (λ _. Cut text cs)
