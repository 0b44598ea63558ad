use Rattle.std.proofs.Common.{List, ℕ, length, subst, sym}
use Rattle.search.proofs.Marks.{marked-below}
use Rattle.search.specs.Tied.Nodes.{Nodes}
use Rattle.search.specs.Ranges.{EachBelow}
use Rattle.search.proofs.node_set.NodeSet.as_slice.Goals as goal

pub returns-clause-within : goal.returns-clause-within
returns-clause-within c = subst (λ (s : Nodes). EachBelow s.room c.as_slice.result.now) c.self.view_is
    (subst (λ (ns : List ℕ). EachBelow (length c.self.inside.marks.items) ns) (sym c.as_slice.ensures.value) (λ node i. marked-below c.self.inside.marks.items node (c.self.invariant.marked node i)))
