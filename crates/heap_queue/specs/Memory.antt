-- The memory that is handed in.
use Rattle.std.specs.Prelude.{ℕ, cond, Ok, Err, Result, nat_lt}
use Rattle.fault.specs.declared.Cause.TheVariants.{MemoryShort}
use Rattle.fault.specs.declared.Fault.{Fault}
use Rattle.fault.specs.declared.Layer.TheVariants.{Call}
use Rattle.fault.specs.Faults.{fault}
use Rattle.queue.specs.Places.{places}

-- memory with fewer entries than there are places is refused
abbrev pub memory_fault : ℕ → Result (Unit {0}) Fault
memory_fault room = cond (nat_lt room places) (Err (fault MemoryShort 0 0 Call)) (Ok tt)
