use Rattle.columns.proofs.IdleBytes.{rest_is_idle}
use Rattle.columns.proofs.SheetTrips.{one_text}
use Rattle.columns.proofs.forms.Form.longest_text.Goals as goal

pub returns : goal.returns
returns c = record { answer = c.text_length.ensures; law = rest_is_idle; texts = one_text }
