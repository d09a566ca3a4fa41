use Rattle.std.proofs.Common.{rules, ◌∙◌, arith}
use Rattle.std.proofs.lemmas.Iterator.{YieldsList-from_slice, YieldsList-from_map}
use Rattle.std.proofs.lemmas.Iterator.Adapters.{serves_from_places}
use Rattle.gauge.specs.Lines.{height_at}
use Rattle.gauge.specs.Totals.{part_fits}
use Rattle.gauge.proofs.Lines.{heights, heights_fit}
use Rattle.gauge.proofs.Sums.{chain_fits, chain_total}
use Rattle.gauge.proofs.drawing.Drawing.sum_at.Goals as goal

pub sum-requires-clause-can : goal.sum-requires-clause-can
sum-requires-clause-can c =
    let s = c.args.self.now in
    let l = s.list in
    let fits = heights_fit l.duties.now s.lines.now l.cycle s.drawn l.judged c.args.t (omega arith) in
    (tt, serves_from_places (YieldsList-from_slice s.lines.now cc) (λ x q k. search rules) (λ x k within e. let fit = part_fits (height_at c.args.t) _ s.lines.now fits x.now k within e in search rules))

pub sum-requires-clause-fits : goal.sum-requires-clause-fits
sum-requires-clause-fits c =
    let s = c.args.self.now in
    let l = s.list in
    let at = height_at c.args.t in
    chain_fits at s.lines.now (YieldsList-from_map _ at (YieldsList-from_slice s.lines.now cc) c.map.ensures.closure (λ x r q k. search rules)) (heights_fit l.duties.now s.lines.now l.cycle s.drawn l.judged c.args.t (omega arith))

pub returns : goal.returns
returns c =
    let s = c.args.self.now in
    let l = s.list in
    let at = height_at c.args.t in
    chain_total at s.lines.now (YieldsList-from_map _ at (YieldsList-from_slice s.lines.now cc) c.map.ensures.closure (λ x r q k. search rules)) c.sum.ensures.ran ∙ heights l.duties.now s.lines.now l.cycle s.drawn c.args.t
