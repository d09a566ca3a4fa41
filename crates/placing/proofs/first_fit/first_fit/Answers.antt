use Rattle.std.proofs.Common.{◌≡◌, ◌<◌, [], length, sym, refl, ap, ◌∙◌, arith, rules}
use Rattle.std.proofs.lemmas.List.{nil_from_length}
use Rattle.std.proofs.lemmas.List.Sorted.{length_permutation}
use Rattle.std.proofs.ByRecursion.{all_shuffled}
use Rattle.heap.specs.Held.{held}
use Rattle.heap.proofs.Draining.{none_left, kept_on}
use Rattle.placing.specs.FirstFit.{placed}
use Rattle.placing.specs.Order.{lined, taken}
use Rattle.placing.specs.Outcome.{placed_answer}
use Rattle.placing.proofs.Taking.{indices_below, taken_shuffled, length_lined, goes_on, stops, past_is, past_kept}
use Rattle.placing.proofs.first_fit.first_fit.Goals as goal

pub loop-next-init : goal.loop-next-init
loop-next-init g c =
    let rs = c.args.records.now in
    let cs = c.clear_boards.new.records in
    let es = held c.line_up-heap.result in
    let told = c.line_up-heap.ensures in
    let passes = g.G.Gauge.passed c.args.gauge.now in
    let boards = c.args.header.now.boards in
    let cycle = c.args.header.now.cycle in
    let n : length cs ≡ length rs = c.clear_boards.auto.records in
    let count = length_permutation _ es told.held in
    record {
      within = indices_below cs _ es n told.held;
      few = omega (arith, count, length_lined 0 cs);
      left = ap (placed passes boards cycle cs) (sym (taken_shuffled (lined 0 cs) es told.held)) ∙ ap (λ xs. placed passes boards cycle xs (taken (lined 0 xs))) c.clear_boards.ensures;
      kept = record { named = refl; same_room = refl; beyond = refl; heaped = λ h. h };
    }

pub loop-next-smaller : goal.loop-next-smaller
loop-next-smaller g c = omega (arith, length_permutation _ _ c.in-Some.ensures.removed.others)

pub loop-next-preserved : goal.loop-next-preserved
loop-next-preserved g c =
    let l = c.loop-next in
    let told = c.in-Some.ensures in
    let removed = told.removed in
    let leaves = told.leaves (l.invariant.kept.heaped c.line_up-heap.ensures.heaped) in
    let fewer = length_permutation _ _ removed.others in
    record {
      within = (all_shuffled (λ e. e.index < length c.args.records.now) _ _ removed.others l.invariant.within).1;
      few = omega (arith, fewer, l.invariant.few);
      left = goes_on (g.G.Gauge.passed c.args.gauge.now) _ _ l.records (held l.heap) (held c.pop.new.self) c.in-Some.next _ leaves.in_turn l.invariant.left c.place_one.new.records c.place_one.result _ c.place_one.ensures.answer c.in_ok-place_one.was c.place_one.ensures.records;
      kept = kept_on _ l.heap _ (length (held l.heap)) _ l.invariant.few l.invariant.kept told.kept;
    }

-- this one fits no board
pub returns-in_err-place_one : goal.returns-in_err-place_one
returns-in_err-place_one g c =
    let l = c.loop-next in
    let told = c.in-Some.ensures in
    let removed = told.removed in
    let leaves = told.leaves (l.invariant.kept.heaped c.line_up-heap.ensures.heaped) in
    let end = stops (g.G.Gauge.passed c.args.gauge.now) _ _ l.records (held l.heap) (held c.pop.new.self) c.in-Some.next _ leaves.in_turn l.invariant.left c.place_one.new.records c.place_one.result _ c.place_one.ensures.answer c.in_err-place_one.was c.place_one.ensures.records in
    record {
      records = end.0;
      answer = search (rules, end.1);
      scratch = past_is _ _ _ _ (past_kept _ _ _ c.args.scratch.now c.line_up-heap.result l.heap c.pop.new.self c.clear_boards.auto.records l.invariant.few c.line_up-heap.ensures.memory l.invariant.kept c.pop.ensures.kept) (search rules);
    }

-- none is left
pub returns : goal.returns
returns g c =
    let l = c.loop-next in
    let removed = c.in_default.ensures.removed in
    let empty : held l.heap ≡ [] = nil_from_length (held l.heap) (none_left (held l.heap) removed.which) in
    let end = ap (λ es. placed (g.G.Gauge.passed c.args.gauge.now) c.args.header.now.boards c.args.header.now.cycle l.records (taken es)) (sym empty) ∙ l.invariant.left in
    record {
      records = ap (λ r. r.0) end;
      answer = ap (λ r. placed_answer r.1) end;
      scratch = past_is _ _ _ _ (past_kept _ _ _ c.args.scratch.now c.line_up-heap.result l.heap c.pop.new.self c.clear_boards.auto.records l.invariant.few c.line_up-heap.ensures.memory l.invariant.kept c.pop.ensures.kept) (search rules);
    }
