use Rattle.markers.specs.MarkerRelations.{RelationAlike}
use Rattle.exports.specs.Conditions.{Meets}
use Rattle.exports.specs.Tied.Kept.{SettlesRelation}
use Rattle.exports.proofs.KeptConditions.{kept-as}
use Rattle.exports.proofs.kept_conditions.keep_relation.Goals as goal

pub returns-in_ok-keep-in-Some : goal.returns-in_ok-keep-in-Some
returns-in_ok-keep-in-Some c =
    let settles : SettlesRelation c.args.environment.now c.args.relation.now c.in-Some.condition = rw c.in-Some.is at c.in_ok-condition.ensures in
    kept-as c.args.environment.now c.args.conditions.now c.keep.new.conditions
    (λ other. Meets c.args.environment.now other c.in-Some.condition) (λ other. RelationAlike c.args.environment.now other c.args.relation.now)
    c.in_ok-keep-in-Some.ensures settles.alike
