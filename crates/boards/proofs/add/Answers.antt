use Rattle.std.proofs.Common.{take, arith, length-append}
use Rattle.std.proofs.lemmas.List.{length-take-le}
use Rattle.boards.specs.Lists.{on_board}
use Rattle.boards.proofs.Collecting.{too_many}
use Rattle.boards.proofs.add.Goals as goal

pub returns-then-n-list : goal.returns-then-n-list
returns-then-n-list c =
    let l = c.loop-record in
    let rs = c.args.records.now in
    let old = c.args.list.now in
    let many = too_many rs c.args.board l.record-index _ c.loop-record-test.true l.list _ l.n c.if-n-list.true c.if-record-board.true l.invariant.1 in
    omega (arith, many, length-append (take c.args.from old) (on_board c.args.board rs), length-take-le c.args.from old c.requires)
