use Rattle.std.proofs.Common.{rules}
use Rattle.reader.specs.Views.{headers}
use Rattle.reader.proofs.ReadLaw.{read_law}
use Rattle.reader.proofs.sheets.read.Goals as goal

pub returns-clause-law : goal.returns-clause-law
returns-clause-law c =
    read_law c.args.form c.args.text.now c.args.records.now c.sheet.new.records (headers c.sheet.result) (search rules) (search rules)
