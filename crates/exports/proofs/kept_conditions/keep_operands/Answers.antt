use Rattle.markers.specs.MarkerRelations.{RelationAlike}
use Rattle.exports.specs.Tied.Kept.{OperandAlike}
use Rattle.exports.proofs.KeptConditions.{kept-both, settled-operands}
use Rattle.exports.proofs.kept_conditions.keep_operands.Goals as goal

pub returns : goal.returns
returns c =
    kept-both c.args.environment.now c.args.conditions.now c.keep_operand.new.conditions c.keep_operand-2.new.conditions
    (OperandAlike c.args.environment.now c.args.relation.now.left) (OperandAlike c.args.environment.now c.args.relation.now.right) (λ other. RelationAlike c.args.environment.now other c.args.relation.now)
    (rw c.left.ensures at c.in_ok-keep_operand.ensures) (rw c.right.ensures at c.in_ok-keep_operand-2.ensures)
    (λ other. settled-operands c.args.environment.now other c.args.relation.now)
