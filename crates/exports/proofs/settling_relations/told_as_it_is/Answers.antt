use Rattle.std.proofs.Common.{◌∙◌, ap}
use Rattle.markers.specs.declared.marker_atom.MarkerOperator.{MarkerOperator}
use Rattle.exports.specs.declared.condition.Condition.TheVariants as conditions
use Rattle.exports.proofs.SettlingRelations.{settles-itself}
use Rattle.exports.proofs.settling_relations.told_as_it_is.Goals as goal

pub returns : goal.returns
returns c =
    settles-itself c.args.environment.now c.args.relation.now c.in_ok-condition.condition
    (c.in_ok-condition.ensures ∙ ap (λ (operator : MarkerOperator). conditions.Holds c.args.relation.now.left operator c.args.relation.now.right) c.operator.ensures) c.requires.stands c.requires.holds
