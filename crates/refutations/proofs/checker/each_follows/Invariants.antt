use Rattle.std.proofs.Common.{[], take}
use Rattle.search.specs.Conflicts.{EachFollows}
use Rattle.problems.specs.Rules.{rules_of, same_version}
use Rattle.refutations.proofs.checker.each_follows.Given as goal

abbrev pub invariant-loop-place : goal.invariant-loop-place
invariant-loop-place g l = EachFollows (rules_of l.problem) same_version [] (take l.place l.conflicts)
