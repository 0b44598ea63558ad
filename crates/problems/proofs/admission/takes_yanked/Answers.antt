use Rattle.std.proofs.Common.{rules}
use Rattle.problems.proofs.admission.takes_yanked.Goals as goal

pub returns-else-pins : goal.returns-else-pins
returns-else-pins c = search rules
