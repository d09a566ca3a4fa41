use Rattle.std.proofs.Common.{◌≡◌, ◌-◌, length, take}
use Rattle.columns.specs.Tables.{records_of}
use Rattle.reader.specs.Views.{rest}
use Rattle.reader.proofs.Turns.{before}
use Rattle.reader.proofs.cursor.Reader.records.Given as goal

abbrev pub invariant-loop-record : goal.invariant-loop-record
invariant-loop-record l =
    before (take l.record-index l.records) (records_of l.form (length l.initial.records - l.record-index) l.cycle l.self.pos l.self.line (rest l.self))
    ≡ records_of l.form (length l.initial.records) l.cycle l.initial.self.pos l.initial.self.line (rest l.initial.self)
