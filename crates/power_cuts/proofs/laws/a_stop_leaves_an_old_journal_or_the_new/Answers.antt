use Rattle.power_cuts.proofs.StoppedJournals.{old-journal-or-next}
use Rattle.power_cuts.proofs.laws.a_stop_leaves_an_old_journal_or_the_new.Goals as goal

pub returns : goal.returns
returns c = record { law = old-journal-or-next c.files_stand_for_one_history.ensures.law }
