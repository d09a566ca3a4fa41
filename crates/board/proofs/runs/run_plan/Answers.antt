use Rattle.std.proofs.Common.{◌≡◌, true, List, IfOk, refl, ap, ◌∙◌, subst}
use Rattle.duty.specs.declared.records.Record.{Record}
use Rattle.duty.specs.declared.timings.Timing.{Timing}
use Rattle.duty.specs.Heads.{head}
use Rattle.gauge.proofs.Shortage.{refused_lists_leave_a_job_short}
use Rattle.board.specs.Runs.{listed, run_fault}
use Rattle.board.proofs.Copying.{same_fault, same_listed}
use Rattle.board.proofs.Playing.{same_run}
use Rattle.board.proofs.runs.run_plan.Goals as goal

pub returns : goal.returns
returns g c =
    let h = head c.args.header in
    let rs = c.args.records.now in
    let few = c.args.header.few_duties in
    let passes = g.G.Gauge.passed c.args.gauge in
    let number = c.args.number in
    let rows = c.copy_rows-n.ensures.value in
    let same_list = ap (λ (l : List Record). listed h l number) rows ∙ same_listed h rs 64 few number in
    record {
      answer = c.run_rows.ensures.answer ∙ ap (λ (l : List Record). run_fault passes h l number) rows ∙ same_fault h rs 64 few passes number;
      ran = same_run g.Q.ReadyQueue.held _ _ _ _ _ _ _ _ c.run_rows.result.1 same_list refl refl c.run_rows.ensures.ran;
      passing = subst (λ (l : List Timing). IfOk c.run_rows.result.1 (λ _. passes l h.cycle ≡ true)) same_list c.run_rows.ensures.passing;
      refused_lists = refused_lists_leave_a_job_short;
    }
