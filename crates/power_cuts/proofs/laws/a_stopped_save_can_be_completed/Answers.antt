use Rattle.power_cuts.proofs.CompletedSaves.{can-be}
use Rattle.power_cuts.proofs.laws.a_stopped_save_can_be_completed.Goals as goal

pub returns : goal.returns
returns c = record { law = can-be }
