use Rattle.power_cuts.proofs.SameHistory.{folder-history}
use Rattle.power_cuts.proofs.laws.a_folder_stands_for_one_history.Goals as goal

pub returns : goal.returns
returns c = record { law = folder-history c.files_stand_for_one_history.ensures.law }
