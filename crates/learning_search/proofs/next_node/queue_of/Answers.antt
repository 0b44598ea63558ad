use Rattle.std.proofs.Common.{rules}
use Rattle.learning_search.proofs.next_node.queue_of.Goals as goal

pub returns : goal.returns
returns c = search rules
