use Rattle.exports.specs.Conditions.{Meets}
use Rattle.exports.specs.Tied.Kept.{ClauseAlike, Settles, VersionsAlike}
use Rattle.exports.specs.declared.condition.Condition.TheVariants as conditions
use Rattle.exports.proofs.KeptConditions.{kept-as, settled-clause}
use Rattle.exports.proofs.kept_conditions.keep_clause.Goals as goal

pub returns-in_ok-keep-in-Some : goal.returns-in_ok-keep-in-Some
returns-in_ok-keep-in-Some c =
    let settles : Settles c.args.environment.now c.args.variable c.args.clause.now c.in-Some.clause = rw c.in-Some.is at c.in_ok-clause.ensures in
    kept-as c.args.environment.now c.args.conditions.now c.keep.new.conditions
    (λ other. Meets c.args.environment.now other (conditions.Matches c.args.variable c.in-Some.clause)) (λ other. VersionsAlike c.args.environment.now other c.args.variable (ClauseAlike c.args.clause.now))
    c.in_ok-keep-in-Some.ensures (λ other h. settled-clause c.args.environment.now other c.args.variable c.args.clause.now c.in-Some.clause settles h)
