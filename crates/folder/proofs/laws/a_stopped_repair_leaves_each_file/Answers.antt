use Rattle.folder.proofs.RepairRuns.{repair_leaves}
use Rattle.folder.proofs.laws.a_stopped_repair_leaves_each_file.Goals as goal

pub returns : goal.returns
returns c = record { law = repair_leaves }
