use Rattle.power_cuts.proofs.StoppedSaves.{old-or-new}
use Rattle.power_cuts.proofs.laws.a_stop_leaves_the_old_or_the_new.Goals as goal

pub returns : goal.returns
returns c = record { law = old-or-new c.files_stand_for_one_history.ensures.law }
