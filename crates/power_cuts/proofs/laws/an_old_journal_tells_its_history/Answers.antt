use Rattle.power_cuts.proofs.StoppedJournals.{none-stood, tells-its_history}
use Rattle.power_cuts.proofs.laws.an_old_journal_tells_its_history.Goals as goal

pub returns-clause-told : goal.returns-clause-told
returns-clause-told c = tells-its_history

pub returns-clause-none : goal.returns-clause-none
returns-clause-none c = none-stood
