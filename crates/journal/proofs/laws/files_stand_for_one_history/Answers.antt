use Rattle.journal.proofs.OpensOnce.{opens-once}
use Rattle.journal.proofs.laws.files_stand_for_one_history.Goals as goal

pub returns : goal.returns
returns c = record { law = opens-once c.a_change_leads_to_one_state.ensures }
