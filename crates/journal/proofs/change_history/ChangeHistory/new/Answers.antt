use Rattle.journal.proofs.Neighbours.{start-is}
use Rattle.journal.proofs.change_history.ChangeHistory.new.Goals as goal

pub invariant_of-result : goal.invariant_of-result
invariant_of-result c = start-is c.args.state _ c.new-changes.ensures.items c.recall_invariant.ensures
