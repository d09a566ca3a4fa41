use Rattle.std.proofs.Common.{take, sym, ap, ◌∙◌, subst}
use Rattle.queue.specs.Places.{places as width}
use Rattle.model.specs.Boards.{Board, dues}
use Rattle.model.specs.Promises.{Promises}
use Rattle.model.specs.Queues.{padded}
use Rattle.model.specs.Steps.{run}
use Rattle.model.proofs.Promises.{promises}
use Rattle.model.proofs.Queueing.{padded_fresh}
use Rattle.board.specs.Loads.{list_of}
use Rattle.board.proofs.Gathering.{all_timed_on, few_on, first_records, unknown_empty, any_bounded}
use Rattle.board.proofs.bare.BareBoard.load.Goals as goal

pub invariant_of-result : goal.invariant_of-result
invariant_of-result g c =
    let p = c.args.plan.now in
    let n = c.args.number in
    record {
      in_step = c.clear.ensures ∙ sym (padded_fresh (list_of p n) (few_on n p.header.duties p.records.now p.header.few_duties)) ∙ ap (λ (x : Board). padded width (dues x.places)) (sym c.start-state.ensures);
    }

pub returns : goal.returns
returns g c =
    let p = c.args.plan.now in
    let n = c.args.number in
    let ds = list_of p n in
    let timed = all_timed_on n (take p.header.duties p.records.now) (first_records p.header.cycle p.header.duties p.records.now p.duties) in
    record {
      start = c.start-state.ensures;
      unknown = unknown_empty n p.header.boards p.header.duties p.records.now p.placed p.known;
      promises = λ calls. subst (λ (b : Board). Promises ds (run b calls)) (sym c.start-state.ensures) (promises ds timed (any_bounded n p.header.boards p.header.duties p.records.now p.placed p.known p.kept) calls);
    }
