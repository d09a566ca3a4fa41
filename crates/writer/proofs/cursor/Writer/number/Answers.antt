use Rattle.std.proofs.Common.{refl, arith, rules, is_ok, ◌∙◌}
use Rattle.columns.specs.Layout.{width}
use Rattle.writer.proofs.Parts.{number_fits, number_is}
use Rattle.writer.proofs.cursor.Writer.number.Goals as goal

pub unwrap-requires : goal.unwrap-requires
unwrap-requires c =
    let fits = c.write_number.ensures.answer ∙ number_fits _ (width c.args.field) c.args.n c.args.self.now.out.now (omega arith) (omega arith) c.requires.fits (omega arith) in
    search (rules, fits)

pub returns : goal.returns
returns c =
    let written = c.write_number.ensures in
    record {
      holds = number_is _ (width c.args.field) c.args.n c.args.self.now.out.now (omega arith) (omega arith) c.requires.fits (omega arith) _ (is_ok c.write_number.result) written.answer written.after;
      stands = refl;
      long = search rules;
      same = refl;
    }
