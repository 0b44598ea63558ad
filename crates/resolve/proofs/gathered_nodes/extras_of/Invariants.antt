use Rattle.std.proofs.Common.{◌⊎◌, Contains, map, take}
use Rattle.problems.specs.Rules.{with_extra}
use Rattle.problems.specs.Tied.Standing.{AllStand, IsLonger}
use Rattle.problems.specs.declared.node.Node.{Node}
use Rattle.resolve.proofs.gathered_nodes.extras_of.Given as goal

abbrev pub invariant-loop-extra : goal.invariant-loop-extra
invariant-loop-extra l = IsLonger l.fn.nodes l.nodes × AllStand l.nodes l.numbers.items (map (with_extra l.wanted.name) (take l.extra-index l.extras)) × ((node : Node) → Contains l.nodes node → Contains l.fn.nodes node ⊎ Contains (map (with_extra l.wanted.name) (take l.extra-index l.extras)) node)
