use Rattle.std.proofs.Common.{rules}
use Rattle.snapshot.proofs.chosen.set_by_name.Goals as goal

pub loop-file-preserved : goal.loop-file-preserved
loop-file-preserved c = search rules
