use Rattle.changes.proofs.ChangeFacts.{After-inverse, IsMinimal-inverse}
use Rattle.changes.proofs.laws.a_change_can_be_taken_back.Goals as goal

pub returns : goal.returns
returns c = λ change old new is after. (IsMinimal-inverse change is, After-inverse change old new after)
