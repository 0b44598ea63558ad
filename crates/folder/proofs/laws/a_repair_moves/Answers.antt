use Rattle.folder.proofs.RepairRuns.{repair_moves}
use Rattle.folder.proofs.laws.a_repair_moves.Goals as goal

pub returns : goal.returns
returns c = record { law = repair_moves }
