use Rattle.std.proofs.Common.{arith}
use Rattle.std.specs.List.{flat_map}
use Rattle.duty.specs.Heads.{head}
use Rattle.columns.specs.Texts.{header_text, line_text}
use Rattle.columns.proofs.LineTrips.{length_header}
use Rattle.writer.proofs.Accepted.{limits_kept}
use Rattle.writer.proofs.Parts.{appended}
use Rattle.writer.proofs.cursor.Writer.sheet.Goals as goal

pub lines-requires : goal.lines-requires
lines-requires c =
    let h = head c.args.header.now in
    let limits = limits_kept c.args.header.now in
    let long = length_header c.args.form h limits in
    record { fits = c.requires.fits; room = omega arith }

pub returns : goal.returns
returns c = record {
  wrote = appended c.args.self.now c.header.new.self c.lines.new.self (header_text c.args.form (head c.args.header.now)) (flat_map (line_text c.args.form) c.args.records.now) c.header.ensures c.lines.ensures.wrote (omega arith);
  sized = c.lines.ensures.sized;
}
