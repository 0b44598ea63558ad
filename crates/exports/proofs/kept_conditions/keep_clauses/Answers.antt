use Rattle.std.proofs.Common.{◌≡◌, ◌∙◌, ◌==◌, true, List, [], length, ap}
use Rattle.std.specs.List.{AllByRecursion}
use Rattle.pep440.specs.declared.specifier.Clause.{Clause}
use Rattle.exports.specs.Tied.Kept.{ClauseAlike, ClausesAlike, VersionsAlike}
use Rattle.exports.proofs.KeptConditions.{kept-as, settled-clauses}
use Rattle.exports.proofs.kept_conditions.keep_clauses.Goals as goal

pub returns : goal.returns
returns c =
    let some : c.args.clauses.now ≡ [] → ⊥ = λ none. let empty : c.is_empty.result ≡ true = c.is_empty.ensures ∙ ap (λ (clauses : List Clause). length clauses == 0) none in absurd cc in
    kept-as c.args.environment.now c.args.conditions.now c.keep_each.new.conditions
    (λ other. AllByRecursion (λ clause. VersionsAlike c.args.environment.now other c.args.variable (ClauseAlike clause)) c.args.clauses.now) (λ other. VersionsAlike c.args.environment.now other c.args.variable (ClausesAlike c.args.clauses.now))
    c.in_ok-keep_each.ensures (λ other h. settled-clauses c.args.environment.now other c.args.variable c.args.clauses.now some h)
