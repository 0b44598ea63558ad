use Rattle.markers.specs.MarkerRelations.{RelationAlike}
use Rattle.exports.proofs.KeptConditions.{kept-more, kept-start, kept-whole}
use Rattle.exports.proofs.kept_conditions.keep_relations.Goals as goal

pub loop-relation-init : goal.loop-relation-init
loop-relation-init c = kept-start (λ other relation. RelationAlike c.args.environment.now other relation.now) c.args.environment.now c.args.conditions.now c.args.relations.now

pub loop-relation-preserved : goal.loop-relation-preserved
loop-relation-preserved c =
    kept-more (λ other relation. RelationAlike c.args.environment.now other relation.now) c.args.environment.now c.args.conditions.now c.loop-relation.conditions c.keep_relation.new.conditions c.args.relations.now c.loop-relation.relation-index c.relation-item.result c.loop-relation-test.true c.relation-item.is
    c.loop-relation.invariant (c.in_ok-keep_relation.ensures)

pub returns : goal.returns
returns c = kept-whole (λ other relation. RelationAlike c.args.environment.now other relation.now) c.args.environment.now c.args.conditions.now c.loop-relation.conditions c.args.relations.now c.loop-relation.relation-index c.loop-relation-test.false c.loop-relation.invariant
