-- Every run of a board keeps the promises, whose list of duties has at no t more demand than t.
use Rattle.std.proofs.Common.{ℕ, ◌≤◌, List}
use Rattle.std.specs.List.{AllByRecursion}
use Rattle.duty.specs.declared.timings.Timing.{Timing}
use Rattle.duty.specs.Demand.{demands}
use Rattle.gauge.specs.Fairness.{Timed}
use Rattle.gauge.proofs.Shortage.{refused_lists_leave_a_job_short}
use Rattle.model.specs.declared.calls.Call.{Call}
use Rattle.model.specs.Boards.{loaded}
use Rattle.model.specs.Steps.{run}
use Rattle.model.specs.Promises.{Promises}
use Rattle.model.proofs.Traces.{run_answered}
use Rattle.model.proofs.Deadlines.{each_job}
use Rattle.model.proofs.Windows.{windows}

pub promises : (ds : List Timing) → AllByRecursion Timed ds → ((t : ℕ) → demands ds t ≤ t) → (calls : List Call) → Promises ds (run (loaded ds) calls)
promises ds timed bounded calls = record {
  each_job = each_job ds timed bounded (run (loaded ds) calls) (run_answered (loaded ds) calls);
  windows = windows ds timed bounded (run (loaded ds) calls) (run_answered (loaded ds) calls);
  refused_lists = refused_lists_leave_a_job_short;
}
