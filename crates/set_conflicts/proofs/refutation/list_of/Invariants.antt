use Rattle.std.proofs.Common.{[]}
use Rattle.search.specs.SetConflicts.{EachSetFollows}
use Rattle.search.specs.Table.{rules_of, places_eq}
use Rattle.set_conflicts.proofs.refutation.list_of.Given as goal

abbrev pub invariant-loop-made : goal.invariant-loop-made
invariant-loop-made l = EachSetFollows (rules_of l.table) places_eq [] l.list
