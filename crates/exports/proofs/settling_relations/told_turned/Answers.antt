use Rattle.std.proofs.Common.{◌∙◌, ap, sym}
use Rattle.exports.specs.Tied.Opposites.{opposite_marker_operator}
use Rattle.exports.proofs.SettlingRelations.{settles-turned}
use Rattle.exports.proofs.settling_relations.told_turned.Goals as goal

pub may_turn-requires-clause-opposite : goal.may_turn-requires-clause-opposite
may_turn-requires-clause-opposite c = ap opposite_marker_operator (sym c.operator.ensures) ∙ sym c.opposite_marker_operator.ensures ∙ c.in-Some.is

pub returns : goal.returns
returns c =
    settles-turned c.args.environment.now c.args.relation.now c.in-Some.operator c.in_ok-condition.condition c.in_ok-condition.ensures c.requires.stands
    (c.in_ok-may_turn.ensures c.if-not-branch.false) c.requires.fails
