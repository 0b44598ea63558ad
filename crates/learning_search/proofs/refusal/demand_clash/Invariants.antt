use Rattle.std.proofs.Common.{take}
use Rattle.learning_search.specs.Tied.Demanded.{DemandsFit}
use Rattle.search.specs.Table.{rules_of}
use Rattle.learning_search.proofs.refusal.demand_clash.Given as goal

abbrev pub invariant-loop-demand : goal.invariant-loop-demand
invariant-loop-demand l = DemandsFit (rules_of l.table) (take l.demand-index l.listed) l.candidate
