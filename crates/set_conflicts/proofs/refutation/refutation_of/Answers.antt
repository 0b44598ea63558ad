use Rattle.std.proofs.Common.{rules}
use Rattle.set_conflicts.proofs.refutation.refutation_of.Goals as goal

pub returns-clause-none : goal.returns-clause-none
returns-clause-none c = c.a_set_refutation_leaves_no_solution.ensures c.args.table.now c.name_count-known.ensures.known c.in-Some.list (search rules)
