use Rattle.changes.proofs.ChangeFacts.{inverse-inverse}
use Rattle.changes.proofs.laws.back_and_back_is_the_change.Goals as goal

pub returns : goal.returns
returns c = λ change is. inverse-inverse change is
