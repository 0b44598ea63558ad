use Rattle.changes.proofs.CarriedFacts.{After-carried}
use Rattle.changes.proofs.laws.a_change_leads_where_it_carries.Goals as goal

pub returns : goal.returns
returns c = After-carried
