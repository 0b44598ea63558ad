use Rattle.changes.proofs.WholeDifference.{IsDifference-inverse}
use Rattle.changes.proofs.laws.a_difference_can_be_taken_back.Goals as goal

pub returns : goal.returns
returns c = IsDifference-inverse
