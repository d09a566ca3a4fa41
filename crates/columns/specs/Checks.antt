-- What every call over a header and records in memory first asks of them.
use Rattle.std.specs.Prelude.{ℕ, ◌+◌, cond, List, length, take, Some, None, Ok, Err, Option, Result, nat_lt}
use Rattle.fault.specs.declared.Cause.TheVariants.{RecordsShort, NotADuty}
use Rattle.fault.specs.declared.Fault.{Fault}
use Rattle.fault.specs.declared.Layer.TheVariants.{Call}
use Rattle.fault.specs.Faults.{fault}
use Rattle.duty.specs.declared.records.Record.{Record}
use Rattle.duty.specs.Heads.{Head}
use Rattle.duty.specs.Records.{first_misfit}
use Rattle.columns.specs.Layout.{duties_field, spacing_field}

-- the line of the record at a place: the header is line 1
abbrev pub line_of : ℕ → ℕ
line_of i = i + 2

-- the refusal for the first row that is no duty record of the cycle
abbrev pub misfit_fault : Option ℕ → Result (Unit {0}) Fault
misfit_fault None = Ok tt
misfit_fault (Some i) = Err (fault NotADuty (line_of i) spacing_field.first Call)

-- enough records, and each of the header's a duty record of its cycle
abbrev pub records_fault : Head → List Record → Result (Unit {0}) Fault
records_fault h rs =
    cond (nat_lt (length rs) h.duties) (Err (fault RecordsShort 1 duties_field.first Call)) (misfit_fault (first_misfit h.cycle (take h.duties rs)))
