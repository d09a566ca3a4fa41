-- What closing a plan asks of its records, in this order.
use Rattle.std.specs.Prelude.{ℕ, zero, suc, ◌+◌, Bool, cond, ◌&&◌, List, take, Some, None, Ok, Err, Option, Result, nat_le}
use Rattle.fault.specs.declared.Cause.TheVariants.{NoSuchBoard, Overfull}
use Rattle.fault.specs.declared.Fault.{Fault}
use Rattle.fault.specs.declared.Layer.TheVariants.{Call}
use Rattle.fault.specs.Faults.{fault, then}
use Rattle.duty.specs.declared.records.Record.{Record}
use Rattle.duty.specs.declared.timings.Timing.{Timing}
use Rattle.duty.specs.Firsts.{first_failing}
use Rattle.duty.specs.Heads.{Head}
use Rattle.columns.specs.Checks.{line_of, records_fault}
use Rattle.boards.specs.Lists.{board_passed}

-- a board of the header
abbrev pub on_some : ℕ → Record → Bool
on_some boards r = nat_le 1 r.board && nat_le r.board boards

-- the index of the first record that is on no board of the header
abbrev pub first_homeless : ℕ → List Record → Option ℕ
first_homeless boards rs = first_failing (on_some boards) rs

abbrev pub homeless_fault : Option ℕ → Result (Unit {0}) Fault
homeless_fault None = Ok tt
homeless_fault (Some i) = Err (fault NoSuchBoard (line_of i) 0 Call)

-- the first of the k boards from b on whose list does not pass is refused
abbrev pub overfull_fault : (List Timing → ℕ → Bool) → List Record → ℕ → ℕ → ℕ → Result (Unit {0}) Fault
overfull_fault passes rs cycle b zero = Ok tt
overfull_fault passes rs cycle b (suc k) =
    cond (board_passed passes rs b cycle) (overfull_fault passes rs cycle (b + 1) k) (Err (fault Overfull b 0 Call))

-- there are records enough, all duty records of the cycle; then, none is off the header's boards; then, every board's list passes
abbrev pub close_fault : (List Timing → ℕ → Bool) → Head → List Record → Result (Unit {0}) Fault
close_fault passes h rs =
    then (records_fault h rs) (λ _. then (homeless_fault (first_homeless h.boards (take h.duties rs))) (λ _. overfull_fault passes (take h.duties rs) h.cycle 1 h.boards))
