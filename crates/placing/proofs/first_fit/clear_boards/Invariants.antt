use Rattle.std.proofs.Common.{◌≡◌, ◌++◌, take, drop}
use Rattle.placing.specs.FirstFit.{cleared}
use Rattle.placing.proofs.first_fit.clear_boards.Given as goal

abbrev pub invariant-loop-record : goal.invariant-loop-record
invariant-loop-record l =
    (take l.record-index l.records ++ cleared (drop l.record-index l.records)) ≡ cleared l.initial.records
