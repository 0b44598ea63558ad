use Rattle.power_cuts.proofs.CompletedSaves.{not-refused}
use Rattle.power_cuts.proofs.laws.a_stopped_save_is_not_refused.Goals as goal

pub returns : goal.returns
returns c = record { law = not-refused }
