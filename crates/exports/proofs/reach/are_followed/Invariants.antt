use Rattle.std.proofs.Common.{take}
use Rattle.std.specs.List.{AllByRecursion}
use Rattle.exports.specs.Tied.Reach.{IsFollowed}
use Rattle.exports.proofs.reach.are_followed.Given as goal

abbrev pub invariant-loop-wanted : goal.invariant-loop-wanted
invariant-loop-wanted l = AllByRecursion (IsFollowed l.clauses) (take l.wanted-index l.wide)
