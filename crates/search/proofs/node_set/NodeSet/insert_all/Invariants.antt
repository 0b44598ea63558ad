use Rattle.std.proofs.Common.{take}
use Rattle.search.specs.Tied.Nodes.{IsGrown}
use Rattle.search.proofs.node_set.NodeSet.insert_all.Given as goal

abbrev pub invariant-loop-node : goal.invariant-loop-node
invariant-loop-node l = IsGrown l.fn.self l.self (take l.node-index l.nodes)
