-- What the calls answer one by one, as answers of events.
use Rattle.std.specs.Prelude.{ℕ, Ok, Err, Option, Result}
use Rattle.fault.specs.declared.Fault.{Fault}
use Rattle.model.specs.declared.calls.Answer.{Answer}
use Rattle.model.specs.declared.calls.Answer.TheVariants.{Refused as refused, Granted as granted, Ran as ran, Finished as finished}

-- the deadline and the units
abbrev pub arrival_answer : Result (ℕ × ℕ) Fault → Answer
arrival_answer (Ok grant) = granted grant.0 grant.1
arrival_answer (Err f) = refused f

-- the place that got the tick
abbrev pub tick_answer : Result (Option ℕ) Fault → Answer
tick_answer (Ok place) = ran place
tick_answer (Err f) = refused f

-- the units that the job had
abbrev pub finish_answer : Result ℕ Fault → Answer
finish_answer (Ok units) = finished units
finish_answer (Err f) = refused f
