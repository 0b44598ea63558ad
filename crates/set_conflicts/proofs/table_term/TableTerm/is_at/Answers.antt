use Rattle.std.proofs.Common.{Contains, subst}
use Rattle.set_conflicts.proofs.table_term.TableTerm.is_at.Goals as goal

pub returns-then-node-clause-within : goal.returns-then-node-clause-within
returns-then-node-clause-within c = λ t n i. subst (λ xs. Contains xs n) c.set.ensures (c.lies_within.ensures.within t n i)
