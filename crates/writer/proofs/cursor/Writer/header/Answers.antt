use Rattle.std.proofs.Common.{arith}
use Rattle.duty.specs.Heads.{head}
use Rattle.columns.proofs.LineTrips.{length_header}
use Rattle.writer.proofs.Accepted.{limits_kept}
use Rattle.writer.proofs.Lines.{header_put}
use Rattle.writer.proofs.cursor.Writer.header.Goals as goal

pub returns : goal.returns
returns c =
    let w = c.args.self.now in
    let h = head c.args.header.now in
    let limits = limits_kept c.args.header.now in
    let long = length_header c.args.form h limits in
    let text = header_put c.args.form h limits w.pos w.out.now (omega arith) in
    record { holds = cc; stands = omega arith; long = cc; same = cc }
