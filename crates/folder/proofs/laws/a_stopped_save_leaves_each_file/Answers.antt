use Rattle.folder.proofs.RepairSteps.{left_by_save}
use Rattle.folder.proofs.laws.a_stopped_save_leaves_each_file.Goals as goal

pub returns : goal.returns
returns c = record { law = λ files going old new apart others way. left_by_save files going others old apart new way }
