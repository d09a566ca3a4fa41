-- What a plan that can be closed is.
use Rattle.std.specs.Prelude.{◌≡◌, ℕ, ◌<◌, ◌≤◌, Bool, true, List, length, get_or, take, Ok, Result, slice_index_or}
use Rattle.fault.specs.declared.Fault.{Fault}
use Rattle.duty.specs.declared.records.Record.{Record}
use Rattle.duty.specs.declared.timings.Timing.{Timing}
use Rattle.duty.specs.Demand.{demands}
use Rattle.duty.specs.Heads.{Head}
use Rattle.duty.specs.Records.{in_cycle}
use Rattle.boards.specs.Lists.{on_board, no_record}

-- the header's records are duty records of its cycle, none is off the header's boards, and the list of every board passes
pub record Closable (passes : List Timing → ℕ → Bool) (h : Head) (rs : List Record) : Type 0 where
  pub enough : h.duties ≤ length rs
  pub duties : (k : ℕ) → k < h.duties → in_cycle h.cycle (slice_index_or rs k no_record) ≡ true
  pub on_boards : (k : ℕ) → k < h.duties → (1 ≤ (get_or rs k no_record).board) × ((get_or rs k no_record).board ≤ h.boards)
  pub passing : (b : ℕ) → 1 ≤ b → b ≤ h.boards → passes (on_board b (take h.duties rs)) h.cycle ≡ true

-- closing is refused just where this is not so
pub record Decides (passes : List Timing → ℕ → Bool) (h : Head) (rs : List Record) (r : Result (Unit {0}) Fault) : Type 0 where
  pub only : r ≡ Ok tt → Closable passes h rs
  pub back : Closable passes h rs → r ≡ Ok tt

-- no board is asked for more than it can give: for every t, the demand of its list up to t is at most t
abbrev pub Kept : ℕ → ℕ → List Record → Type 0
Kept boards duties rs = (b t : ℕ) → 1 ≤ b → b ≤ boards → demands (on_board b (take duties rs)) t ≤ t
