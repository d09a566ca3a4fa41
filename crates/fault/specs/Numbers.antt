-- The number by which users know each cause of a refusal.
use Rattle.std.specs.Prelude.{ℕ}
use Rattle.fault.specs.declared.Cause.{Cause}
use Rattle.fault.specs.declared.Cause.TheVariants.{ScratchShort, MemoryShort, RecordsShort, OutputShort, BadCharacter, BadNumeral, OutOfRange, BadLength, OutOfOrder, NotADivisor, NotADuty, MissingLine, TrailingBytes, NoBoardFits, NoSuchBoard, Overfull, UnknownBoard, NoSuchPlace, TooSoon, NoJob, ClockFull}

abbrev pub number : Cause → ℕ
number ScratchShort = 10
number MemoryShort = 10
number RecordsShort = 11
number OutputShort = 12
number BadCharacter = 20
number BadNumeral = 21
number OutOfRange = 22
number BadLength = 30
number OutOfOrder = 31
number NotADivisor = 32
number NotADuty = 32
number MissingLine = 40
number TrailingBytes = 40
number NoBoardFits = 50
number NoSuchBoard = 51
number Overfull = 52
number UnknownBoard = 60
number NoSuchPlace = 70
number TooSoon = 71
number NoJob = 72
number ClockFull = 73
