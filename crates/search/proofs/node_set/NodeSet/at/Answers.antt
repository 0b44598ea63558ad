use Rattle.std.proofs.Common.{◌<◌, length, subst, sym}
use Rattle.search.proofs.Marks.{marked-below}
use Rattle.search.specs.Tied.Nodes.{Nodes}
use Rattle.search.proofs.node_set.NodeSet.at.Goals as goal

pub returns-clause-within : goal.returns-clause-within
returns-clause-within c =
    let within : c.args.place < length c.self.inside.members.items = subst (λ (s : Nodes). c.args.place < length s.members) (sym c.self.view_is) c.requires in
    subst (λ (s : Nodes). c.index.result.now < s.room) c.self.view_is
    (marked-below c.self.inside.marks.items c.index.result.now (c.self.invariant.marked c.index.result.now (c.args.place, within, sym c.index.ensures)))
