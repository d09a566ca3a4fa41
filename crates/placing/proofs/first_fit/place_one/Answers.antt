use Rattle.std.proofs.Common.{◌≡◌, ℕ, ◌+◌, ◌-◌, true, false, cond, eqb, Some, None, Err, sym, ap, ◌∙◌, arith}
use Rattle.std.proofs.lemmas.Bool.{ne_eqb}
use Rattle.placing.specs.FirstFit.{seat, lowest, takes, fit}
use Rattle.placing.specs.Outcome.{placed_answer}
use Rattle.placing.proofs.Seating.{seat_again, lowest_here, lowest_next, tried}
use Rattle.placing.proofs.first_fit.place_one.Goals as goal
use Rattle.placing.proofs.first_fit.place_one.Goals.{else-loop-b-test, then-loop-b-test+else-board_passes+else-b-b-end}

pub returns-then-board_passes : goal.returns-then-board_passes
returns-then-board_passes g c =
    let rs = c.args.records.now in
    let i = c.args.i in
    let l = c.loop-b in
    let passes = g.G.Gauge.passed c.args.gauge.now in
    let cycle = c.args.header.now.cycle in
    let here : seat l.records i l.b ≡ seat rs i l.b = l.invariant.moved l.b in
    let ok : takes passes cycle rs i l.b ≡ true =
    tried passes rs l.records i l.b _ cycle _ (omega arith) here c.cycle.ensures c.board_passes.ensures ∙ c.if-board_passes.true in
    let is : fit passes c.args.header.now.boards cycle rs i ≡ l.b = sym l.invariant.left ∙ lowest_here (takes passes cycle rs i) l.b _ (omega arith) ok in
    record {
      records = here ∙ ap (seat rs i) (sym is);
      answer = sym (ap (λ (b : ℕ). placed_answer (cond (eqb b 0) (Some i) None)) is ∙ ap (λ t. placed_answer (cond t (Some i) None)) (ne_eqb l.b 0 (omega arith)));
    }

pub loop-b-preserved : goal.loop-b-preserved
loop-b-preserved g c =
    let rs = c.args.records.now in
    let i = c.args.i in
    let l = c.loop-b in
    let passes = g.G.Gauge.passed c.args.gauge.now in
    let cycle = c.args.header.now.cycle in
    let off : takes passes cycle rs i l.b ≡ false =
    tried passes rs l.records i l.b _ cycle _ (omega arith) (l.invariant.moved l.b) c.cycle.ensures c.board_passes.ensures ∙ c.if-board_passes.false in
    record {
      moved = λ m. seat_again l.records i l.b m (omega arith) ∙ l.invariant.moved m;
      left = sym (lowest_next (takes passes cycle rs i) l.b _ _ (omega arith) off) ∙ l.invariant.left;
    }

-- no board is left
pub returns : goal.returns
returns g c =
    let rs = c.args.records.now in
    let i = c.args.i in
    let l = c.loop-b in
    let passes = g.G.Gauge.passed c.args.gauge.now in
    let cycle = c.args.header.now.cycle in
    let boards = c.args.header.now.boards in
    let end : (seat c.loop-b-test.records i 0 ≡ seat rs i 0) × (fit passes boards cycle rs i ≡ 0) =
    elim c.loop-b-test.branch [
      | else-loop-b-test w ↦
          let k : boards + 1 - l.b ≡ 0 = omega arith in
          (ap (λ xs. seat xs i 0) w.records-is ∙ l.invariant.moved 0, sym l.invariant.left ∙ ap (lowest (takes passes cycle rs i) l.b) k)
      | then-loop-b-test+else-board_passes+else-b-b-end w ↦
          let off : takes passes cycle rs i l.b ≡ false =
          tried passes rs l.records i l.b _ cycle _ (omega arith) (l.invariant.moved l.b) w.cycle.ensures w.board_passes.ensures ∙ w.if-board_passes.false in (
            ap (λ xs. seat xs i 0) w.records-is ∙ seat_again l.records i l.b 0 (omega arith) ∙ l.invariant.moved 0,
            sym l.invariant.left ∙ lowest_next (takes passes cycle rs i) l.b (boards + 1 - l.b) 0 (omega arith) off,
          )
    ] in
    record {
      records = end.0 ∙ ap (seat rs i) (sym end.1);
      answer = ap Err (rw c.of_call.ensures at c.at.ensures) ∙ sym (ap (λ (b : ℕ). placed_answer (cond (eqb b 0) (Some i) None)) end.1);
    }
