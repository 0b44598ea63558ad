use Rattle.learning_search.proofs.Sets.{gathers-but}
use Rattle.learning_search.proofs.decisions.insert_unless.Goals as goal

pub returns : goal.returns
returns c = gathers-but c.args.decisions.now.items c.insert.new.decisions.items c.args.decision c.args.left_out (c.is_same.ensures.differ c.if-is_same.false) c.in_ok-insert.ensures
