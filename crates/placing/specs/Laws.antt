-- What placing by first-fit means, in terms of duties, boards and what their lists would be.
use Rattle.std.specs.Prelude.{◌≡◌, ℕ, ◌<◌, ◌≤◌, Bool, true, false, ◌⊎◌, List, [], ◌∷◌, map, length, take, Some, None, Option, Result, slice_index_or}
use Rattle.std.specs.List.Sorted.{IsPermutation}
use Rattle.fault.specs.declared.Fault.{Fault}
use Rattle.duty.specs.declared.records.Record.{Record}
use Rattle.duty.specs.declared.timings.Timing.{Timing}
use Rattle.duty.specs.Demand.{demands}
use Rattle.heap.specs.Sorted.{Ascending}
use Rattle.boards.specs.Lists.{on_board, no_record}
use Rattle.placing.specs.declared.lined.Lined.{Lined}
use Rattle.placing.specs.FirstFit.{seat, takes, cleared}
use Rattle.placing.specs.Order.{sooner, lined}
use Rattle.placing.specs.Outcome.{placed_answer}

-- from records rs, placing the duties at these indices in turn leaves the records fs, and all were placed or one fits no board
pub data Filling (passes : List Timing → ℕ → Bool) (boards cycle : ℕ) : List Record → List ℕ → List Record → Option ℕ → Type 0 where
  -- none is left
  done : (rs : List Record) → Filling passes boards cycle rs [] rs None
  -- the next went to a board that takes it, and every lower-numbered board refused it as the boards stood then
  seated : (rs fs : List Record) (is : List ℕ) (o : Option ℕ) (i b : ℕ) → 1 ≤ b → b ≤ boards → takes passes cycle rs i b ≡ true → ((c : ℕ) → 1 ≤ c → c < b → takes passes cycle rs i c ≡ false) → Filling passes boards cycle (seat rs i b) is fs o → Filling passes boards cycle rs (i ∷ is) fs o
  -- every board refused the next, which has none then
  stuck : (rs : List Record) (is : List ℕ) (i : ℕ) → ((c : ℕ) → 1 ≤ c → c ≤ boards → takes passes cycle rs i c ≡ false) → Filling passes boards cycle rs (i ∷ is) (seat rs i 0) (Some i)

-- placing the records rs by first-fit left fs, and all were placed or one fits no board
pub record FirstFit (passes : List Timing → ℕ → Bool) (boards cycle : ℕ) (rs fs : List Record) (o : Option ℕ) : Type 0 where
  -- the duties in the order in which they were taken: all of them, by deadline and then by line
  pub queue : List Lined
  pub everyone : IsPermutation (lined 0 (cleared rs)) queue
  pub by_deadline : Ascending sooner queue
  -- they were placed one after another, from no duty on a board
  pub filling : Filling passes boards cycle (cleared rs) (map (λ e. e.index) queue) fs o
  -- nothing but board numbers changed
  pub same_duties : cleared fs ≡ cleared rs
  -- no board is overfilled: it has no duty, or its list passes
  pub none_overfilled : (b : ℕ) → 1 ≤ b → b ≤ boards → (on_board b fs ≡ []) ⊎ (passes (on_board b fs) cycle ≡ true)
  -- where all were placed, each duty is on a board
  pub all_on_boards : o ≡ None → (k : ℕ) → k < length rs → (1 ≤ (slice_index_or fs k no_record).board) × ((slice_index_or fs k no_record).board ≤ boards)

-- no board is asked for more than it can give: for every t, the demand of its list up to t is at most t
abbrev pub WithinTime : ℕ → List Record → Type 0
WithinTime boards rs = (b : ℕ) → 1 ≤ b → b ≤ boards → (t : ℕ) → demands (on_board b rs) t ≤ t

-- what a placing that got past its checks answered and left, of as many records as there are duties
pub record PlacedLaw (passes : List Timing → ℕ → Bool) (boards cycle duties : ℕ) (before after : List Record) (answer : Result (Unit {0}) Fault) : Type 0 where
  pub outcome : Option ℕ
  pub answered : answer ≡ placed_answer outcome
  pub placing : FirstFit passes boards cycle (take duties before) (take duties after) outcome
