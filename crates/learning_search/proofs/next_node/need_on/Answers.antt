use Rattle.learning_search.proofs.Rows.{first-member}
use Rattle.learning_search.proofs.next_node.need_on.Goals as goal

pub requirement-requires : goal.requirement-requires
requirement-requires c = c.requires c.in_ok-demand.field-0.now (first-member c.args.row.now c.in_ok-demand.field-0.now c.in_ok-demand.ensures.value)
