use Rattle.std.proofs.Common.{ℕ, arith}
use Rattle.boards.proofs.Collecting.{takes_block, block_too_long}
use Rattle.boards.proofs.collect.Goals as goal

-- the records of a block
abbrev size : ℕ
size = 16

pub returns-in_err-n : goal.returns-in_err-n
returns-in_err-n c =
    let l = c.loop-block in
    let s = c.in-Some.ensures.cases in
    let many = block_too_long c.args.records.now l.left.now c.in-Some.block.now c.args.board size l.n l.list s.0 l.invariant.1 l.invariant.0 c.in_err-n.ensures in
    rw c.from_residual.ensures (omega (arith, many))

pub loop-block-preserved : goal.loop-block-preserved
loop-block-preserved c =
    let l = c.loop-block in
    let s = c.in-Some.ensures.cases in
    let a = c.in_ok-n.ensures in (
      omega arith,
      takes_block c.args.records.now l.left.now c.in-Some.block.now c.args.board size l.n l.list s.0 l.invariant.1 c.in-Some.rest.now c.add.new.list c.in_ok-n.n s.1 a.1,
    )
