use Rattle.duty.proofs.Stems.{names_are_stems}
use Rattle.duty.proofs.names.Name.is_valid.Goals as goal

pub returns-clause-law : goal.returns-clause-law
returns-clause-law c = names_are_stems
