use Rattle.std.proofs.Common.{take}
use Rattle.std.specs.List.{AllByRecursion}
use Rattle.markers.specs.MarkerRelations.{RelationAlike}
use Rattle.exports.specs.Tied.Kept.{Keeps}
use Rattle.exports.proofs.kept_conditions.keep_relations.Given as goal

abbrev pub invariant-loop-relation : goal.invariant-loop-relation
invariant-loop-relation l = Keeps l.environment l.fn.conditions l.conditions (λ other. AllByRecursion (λ relation. RelationAlike l.environment other relation.now) (take l.relation-index l.relations))
