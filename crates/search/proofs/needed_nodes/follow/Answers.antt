use Rattle.std.proofs.Common.{List, ℕ, length, subst, sym}
use Rattle.search.specs.Ranges.{EachBelow}
use Rattle.search.proofs.needed_nodes.follow.Goals as goal

pub require-requires-clause-known : goal.require-requires-clause-known
require-requires-clause-known c = subst (λ (rs : List ℕ). EachBelow (length c.args.table.now.requirements) rs) (sym c.wants.ensures.wants) c.wants.ensures.known
