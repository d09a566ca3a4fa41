use Rattle.std.proofs.Common.{◌++◌, length, drop, ap, ◌∙◌}
use Rattle.duty.specs.Heads.{head}
use Rattle.placing.proofs.Whole.{past_part, placed_law, within_time, no_fault, answer_is, after_is}
use Rattle.placing.proofs.places.place.Goals as goal

pub returns : goal.returns
returns g c =
    let h = c.args.header.now in
    let rs = c.args.records.now in
    let room = length c.args.scratch.now in
    let d = c.duties-duties.result in
    let good = c.in_ok-check_records.ensures in
    let is = c.duties-duties.ensures in
    let fits = c.if-scratch-duties.false in
    let passes = g.G.Gauge.passed c.args.gauge.now in
    let answer = c.first_fit.ensures.answer ∙ answer_is (head h) rs room d good is fits passes in
    let after = ap (λ xs. xs ++ drop d rs) c.first_fit.ensures.records ∙ after_is (head h) rs room d good is fits passes in
    record {
      answer = answer;
      after = after;
      law = placed_law passes (head h) rs _ room _ answer after;
      bounded = λ e. within_time passes (g.met.G.Gauge.bounded c.args.gauge.now) _ _ _ _ _ (placed_law passes (head h) rs _ room _ answer after e).placing;
      scratch = past_part (head h) rs room d good is fits _ _ c.first_fit.ensures.scratch;
      untouched = λ f e. absurd (no_fault (head h) rs room d good is fits f e);
    }
