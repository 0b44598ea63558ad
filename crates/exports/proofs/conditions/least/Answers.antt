use Rattle.std.proofs.Common.{◌≡◌, [], ◌∷◌, ◌++◌, length, arith, subst, sym}
use Rattle.exports.specs.Conditions.{MeetsAll}
use Rattle.exports.proofs.KeptConditions.{left-step}
use Rattle.exports.proofs.SaidConditions.{none-left}
use Rattle.exports.proofs.conditions.least.Goals as goal

pub loop-condition-preserved : goal.loop-condition-preserved
loop-condition-preserved c =
    let popped : c.loop-condition.left.items ≡ c.pop.new.self.items ++ c.in-Some.condition ∷ [] = c.in-Some.ensures.items in
    left-step c.args.environment.now c.args.conditions c.loop-condition.left.items c.pop.new.self.items c.loop-condition.least c.keep.new.conditions c.in-Some.condition
    c.loop-condition.invariant popped c.in_ok-keep.ensures

pub returns-clause-said : goal.returns-clause-said
returns-clause-said c =
    let count : length c.loop-condition.left.items ≡ 0 = omega (arith, c.in_default.ensures.cases.0) in
    λ other h. c.loop-condition.invariant.settled other h (subst (MeetsAll c.args.environment.now other) (sym (none-left c.loop-condition.left.items count)) tt)
