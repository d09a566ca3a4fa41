use Rattle.std.proofs.Common.{ℕ, List, take, ap, ◌∙◌, ap₂}
use Rattle.std.proofs.lemmas.List.{take_all}
use Rattle.duty.specs.declared.records.Record.{Record}
use Rattle.duty.specs.Heads.{Head}
use Rattle.boards.specs.Lists.{on_board}
use Rattle.queue.specs.Places.{places as width}
use Rattle.model.specs.Boards.{loaded}
use Rattle.board.specs.Loads.{list_of}
use Rattle.board.proofs.Gathering.{few_on}
use Rattle.board.proofs.loads.start.Goals as goal

pub returns : goal.returns
returns g c =
    let p = c.args.plan.now in
    let b = c.args.number in
    let n = c.duties.ensures ∙ ap (λ (h : Head). h.duties) c.header.ensures in
    let rows = ap₂ (λ (m : ℕ) (rs : List Record). take m rs) n c.records.ensures.answer in
    c.gather.ensures
    ∙ ap (λ (rs : List Record). loaded (take width (on_board b rs))) rows
    ∙ ap loaded (take_all width (list_of p b) (few_on b p.header.duties p.records.now p.header.few_duties))
