use Rattle.std.proofs.Common.{take}
use Rattle.std.specs.List.{AllByRecursion}
use Rattle.exports.specs.Tied.Kept.{ClauseAlike, Keeps, VersionsAlike}
use Rattle.exports.proofs.kept_conditions.keep_each.Given as goal

abbrev pub invariant-loop-clause : goal.invariant-loop-clause
invariant-loop-clause l = Keeps l.environment l.fn.conditions l.conditions (λ other. AllByRecursion (λ clause. VersionsAlike l.environment other l.variable (ClauseAlike clause)) (take l.clause-index l.clauses))
