use Rattle.std.proofs.Common.{◌≤◌, length, subst}
use Rattle.search.proofs.Marks.{members-within}
use Rattle.search.specs.Tied.Nodes.{Nodes}
use Rattle.search.proofs.node_set.NodeSet.len.Goals as goal

pub returns-clause-within : goal.returns-clause-within
returns-clause-within c = subst (λ (s : Nodes). length s.members ≤ s.room) c.self.view_is (members-within c.self.inside.members.items c.self.inside.marks.items c.self.invariant)
