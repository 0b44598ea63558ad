use Rattle.std.proofs.Common.{take, map}
use Rattle.learning_search.specs.Tied.Demanded.{NoneOnDecided}
use Rattle.learning_search.specs.Tied.Gathering.{choice_at}
use Rattle.learning_search.specs.Tied.Learned.{first_at}
use Rattle.search.specs.Table.{rules_of}
use Rattle.learning_search.proofs.next_node.need_on_decided.Given as goal

abbrev pub invariant-loop-demand : goal.invariant-loop-demand
invariant-loop-demand l = NoneOnDecided (rules_of l.table) (first_at l.taken) (map choice_at l.choices.entries) (take l.demand-index l.listed)
