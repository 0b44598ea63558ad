use Rattle.std.proofs.Common.{[], take}
use Rattle.search.specs.SetConflicts.{EachSetFollows}
use Rattle.problems.specs.Rules.{rules_of, same_version}
use Rattle.explain.proofs.grounds.each_ground.Given as goal

abbrev pub invariant-loop-place : goal.invariant-loop-place
invariant-loop-place g l = EachSetFollows (rules_of l.problem) same_version [] (take l.place l.conflicts)
