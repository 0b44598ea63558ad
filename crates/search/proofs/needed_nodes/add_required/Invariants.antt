use Rattle.std.proofs.Common.{take}
use Rattle.search.specs.Tied.Nodes.{IsGrown, nodes_required}
use Rattle.search.specs.Table.{rules_of}
use Rattle.search.proofs.needed_nodes.add_required.Given as goal

abbrev pub invariant-loop-requirement : goal.invariant-loop-requirement
invariant-loop-requirement l = IsGrown l.fn.nodes l.nodes (nodes_required (rules_of l.table) (take l.requirement-index l.required))
