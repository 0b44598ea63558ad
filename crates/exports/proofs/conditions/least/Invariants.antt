use Rattle.std.proofs.Common.{length}
use Rattle.exports.proofs.KeptConditions.{IsLeft}
use Rattle.exports.proofs.conditions.least.Given as goal

abbrev pub invariant-loop-condition : goal.invariant-loop-condition
invariant-loop-condition l = IsLeft l.environment l.fn.conditions l.left.items l.least

abbrev pub decreases-loop-condition : goal.decreases-loop-condition
decreases-loop-condition l = length l.left.items
