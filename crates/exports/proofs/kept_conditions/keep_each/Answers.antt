use Rattle.std.proofs.Common.{subst, sym}
use Rattle.pep440.specs.SetGrammar.{IsLawfulClause}
use Rattle.states.proofs.PartFacts.{AllByRecursion-at}
use Rattle.exports.specs.Tied.Kept.{ClauseAlike, VersionsAlike}
use Rattle.exports.proofs.KeptConditions.{kept-more, kept-start, kept-whole}
use Rattle.exports.proofs.kept_conditions.keep_each.Goals as goal

pub keep_clause-requires : goal.keep_clause-requires
keep_clause-requires c =
    subst IsLawfulClause (sym c.clause-item.is)
    (AllByRecursion-at IsLawfulClause c.args.clauses.now c.loop-clause.clause-index c.clause-item.result c.loop-clause-test.true c.requires)

pub loop-clause-init : goal.loop-clause-init
loop-clause-init c = kept-start (λ other clause. VersionsAlike c.args.environment.now other c.args.variable (ClauseAlike clause)) c.args.environment.now c.args.conditions.now c.args.clauses.now

pub loop-clause-preserved : goal.loop-clause-preserved
loop-clause-preserved c =
    kept-more (λ other clause. VersionsAlike c.args.environment.now other c.args.variable (ClauseAlike clause)) c.args.environment.now c.args.conditions.now c.loop-clause.conditions c.keep_clause.new.conditions c.args.clauses.now c.loop-clause.clause-index c.clause-item.result c.loop-clause-test.true c.clause-item.is
    c.loop-clause.invariant (c.in_ok-keep_clause.ensures)

pub returns : goal.returns
returns c = kept-whole (λ other clause. VersionsAlike c.args.environment.now other c.args.variable (ClauseAlike clause)) c.args.environment.now c.args.conditions.now c.loop-clause.conditions c.args.clauses.now c.loop-clause.clause-index c.loop-clause-test.false c.loop-clause.invariant
