use Rattle.changes.proofs.OneOutcome.{After-one}
use Rattle.changes.proofs.laws.a_change_leads_to_one_state.Goals as goal

pub returns : goal.returns
returns c = After-one
