use Rattle.std.proofs.Common.{◌≡◌, map, take}
use Rattle.resolve.proofs.names.names_on.Given as goal

abbrev pub invariant-loop-node : goal.invariant-loop-node
invariant-loop-node l = l.names.items ≡ map (λ node. node.name) (take l.node-index l.nodes)
