use Rattle.std.proofs.Common.{◌≡◌, List, sym, ap, ◌∙◌, ap₂, subst₂}
use Rattle.fault.proofs.Steps.{then_ok}
use Rattle.duty.specs.declared.records.Record.{Record}
use Rattle.duty.specs.Heads.{Head, head}
use Rattle.plans.specs.Closing.{close_fault}
use Rattle.plans.specs.Laws.{Closable}
use Rattle.board.specs.Loads.{load_fault}
use Rattle.board.specs.Runs.{listed}
use Rattle.board.proofs.Playing.{same_run, unrefused, in_plan}
use Rattle.board.proofs.runs.run_rows.Goals as goal

pub returns : goal.returns
returns g c =
    let header = c.args.header in
    let number = c.args.number in
    let passes = g.G.Gauge.passed c.args.gauge in
    let same_head : head c.close-closed.result.header ≡ head header = c.close-closed.ensures.header ∙ c.new-plan.ensures.header in
    let same_records = c.close-closed.ensures.records ∙ c.new-plan.ensures.records in
    let open_fault = ap₂ (close_fault passes) c.new-plan.ensures.header c.new-plan.ensures.records in
    let closes = sym (c.in_default.ensures.answer ∙ open_fault) in
    let same_list = ap₂ (λ (h : Head) (rs : List Record). listed h rs number) same_head same_records in
    record {
      answer = c.run-board.ensures.answer ∙ ap (λ (h : Head). load_fault number h.boards) same_head ∙ sym (then_ok (λ _. load_fault number header.boards) closes);
      ran = same_run g.Q.ReadyQueue.held _ _ _ _ _ _ _ _ c.run-board.result.1 same_list c.new.ensures (sym c.into_queue.ensures) c.run-board.ensures.ran;
      passing = unrefused c.run-board.result.1 _ (λ ok.
          let there = in_plan number header.boards (ap (λ (h : Head). load_fault number h.boards) (sym same_head) ∙ sym c.run-board.ensures.answer ∙ ok) in
          (subst₂ (λ (h : Head) (rs : List Record). Closable passes h rs) same_head same_records c.close-closed.ensures.closable).passing number there.0 there.1);
    }
