use Rattle.std.proofs.Common.{arith, rules}
use Rattle.writer.specs.Puts.{Sized}
use Rattle.writer.proofs.Lines.{length_duty_line, duty_put}
use Rattle.writer.proofs.cursor.Writer.line.Goals as goal

pub returns : goal.returns
returns c =
    let w = c.args.self.now in
    let row = c.args.row.now in
    let sized : Sized row = search rules in
    let long = length_duty_line row c.requires.fits sized c.args.form in
    let text = duty_put row c.requires.fits sized c.args.form w.pos w.out.now (omega arith) in
    record { wrote = record { holds = cc; stands = omega arith; long = cc; same = cc }; sized = sized }
