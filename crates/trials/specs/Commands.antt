-- The one text of each command, and what it means that a text is read.
use Rattle.std.specs.Prelude.{◌≡◌, ℕ, ◌^◌, ◌<◌, Bool, true, false, List, ◌++◌, Some, None, codes, decimal, Option, Result, ◌≢◌}
use Rattle.std.specs.Result.{result_ok}
use Rattle.columns.specs.Numerals.{widest}
use Rattle.model.specs.declared.calls.Call.{Call}
use Rattle.model.specs.declared.calls.Call.TheVariants.{Arrive as arrive, Tick as tick, Finish as finish, GeneralCancel as cancel}
use Rattle.trials.specs.declared.commands.Command.{Command}
use Rattle.trials.specs.declared.commands.NoCommand.{NoCommand}
use Rattle.trials.specs.declared.commands.Command.TheVariants.{Load as load, Make as make, Unload as unload}

-- of the values that may be written, the one whose text this is; none only where it is the text of none
abbrev pub Reads : {A : Type 0} → (A → Type 0) → (A → List ℕ) → List ℕ → Option A → Type 0
Reads {A} may text bs None = (x : A) → may x → text x ≢ bs
Reads may text bs (Some x) = may x × (text x ≡ bs)

-- a number that may stand in a line has at most nine digits
abbrev pub Short : ℕ → Type 0
Short n = n < 10 ^ widest

-- a call's line, without its end byte
abbrev pub call_text : Call → List ℕ
call_text (arrive p) = codes "arrive " ++ decimal p
call_text tick = codes "tick"
call_text (finish p) = codes "finish " ++ decimal p
call_text cancel = codes "cancel"

abbrev pub command_text : Command → List ℕ
command_text (load b) = codes "load " ++ decimal b
command_text (make call) = call_text call
command_text unload = codes "unload"

-- the command is a call
abbrev pub is_call : Command → Bool
is_call (load b) = false
is_call (make call) = true
is_call unload = false

abbrev pub ShortCall : Call → Type 0
ShortCall (arrive p) = Short p
ShortCall tick = Unit {0}
ShortCall (finish p) = Short p
ShortCall cancel = Unit {0}

abbrev pub ShortCommand : Command → Type 0
ShortCommand (load b) = Short b
ShortCommand (make call) = ShortCall call
ShortCommand unload = Unit {0}

-- the command whose text the line is; refused only where it is the text of none
abbrev pub ReadsCommand : List ℕ → Result Command NoCommand → Type 0
ReadsCommand line read = Reads ShortCommand command_text line (result_ok read)
