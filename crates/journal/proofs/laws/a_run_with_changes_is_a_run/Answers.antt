use Rattle.journal.proofs.RunFacts.{Run-of}
use Rattle.journal.proofs.laws.a_run_with_changes_is_a_run.Goals as goal

pub returns : goal.returns
returns c = record { law = λ old new asked replies run. Run-of old asked replies new run }
