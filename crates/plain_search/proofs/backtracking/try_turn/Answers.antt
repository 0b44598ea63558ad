use Rattle.std.proofs.Common.{rules}
use Rattle.plain_search.proofs.backtracking.try_turn.Goals as goal

pub returns : goal.returns
returns c = search rules
