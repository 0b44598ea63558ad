use Rattle.std.proofs.Common.{take}
use Rattle.search.proofs.Least.{IsFound}
use Rattle.search.specs.Tied.Search.{taken_at}
use Rattle.search.specs.Table.{rules_of}
use Rattle.search.proofs.clash.least_free.Given as goal

abbrev pub invariant-loop-node : goal.invariant-loop-node
invariant-loop-node l = IsFound (rules_of l.table) (taken_at l.taken) (take l.node-index l.nodes) l.found
