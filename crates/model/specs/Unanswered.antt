-- A call that is still to be made.
use Rattle.std.specs.Prelude.{None}
use Rattle.model.specs.declared.calls.Call.{Call}
use Rattle.model.specs.declared.calls.Answer.TheVariants.{Ran as ran}
use Rattle.model.specs.declared.calls.Event.{Event}

-- what stands for its answer until then
abbrev pub unanswered : Call → Event
unanswered call = record { call = call; answer = ran None }
