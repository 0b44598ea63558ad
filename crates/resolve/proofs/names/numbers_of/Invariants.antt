use Rattle.std.proofs.Common.{map, take}
use Rattle.problems.specs.Tied.Standing.{AllStand}
use Rattle.resolve.proofs.names.numbers_of.Given as goal

abbrev pub invariant-loop-node : goal.invariant-loop-node
invariant-loop-node l = AllStand l.names l.numbers.items (map (λ node. node.name) (take l.node-index l.nodes))
