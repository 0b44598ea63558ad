use Rattle.power_cuts.proofs.SameHistory.{journal-history}
use Rattle.power_cuts.proofs.laws.a_journal_tells_one_history.Goals as goal

pub returns : goal.returns
returns c = record { law = journal-history c.files_stand_for_one_history.ensures.law }
