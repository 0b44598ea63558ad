use Rattle.changes.proofs.OneDifference.{difference-one}
use Rattle.changes.proofs.laws.two_states_have_one_difference.Goals as goal

pub returns : goal.returns
returns c = difference-one
