use Rattle.changes.proofs.OneDifference.{equal-lines-none}
use Rattle.changes.proofs.laws.equal_lines_differ_nowhere.Goals as goal

pub returns : goal.returns
returns c = equal-lines-none
