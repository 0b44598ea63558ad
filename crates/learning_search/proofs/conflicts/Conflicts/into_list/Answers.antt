use Rattle.std.proofs.Common.{rules}
use Rattle.learning_search.proofs.conflicts.Conflicts.into_list.Goals as goal

pub returns : goal.returns
returns c = search rules
