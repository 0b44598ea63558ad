use Rattle.power_cuts.proofs.CutJournals.{cut-is_none}
use Rattle.power_cuts.proofs.laws.a_cut_journal_is_none.Goals as goal

pub returns : goal.returns
returns c = record { law = cut-is_none }
