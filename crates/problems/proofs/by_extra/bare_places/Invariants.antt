use Rattle.std.proofs.Common.{◌≡◌, None, take}
use Rattle.problems.specs.Rules.{counts}
use Rattle.problems.specs.Tied.ByExtra.{places}
use Rattle.problems.proofs.by_extra.bare_places.Given as goal

abbrev pub invariant-loop-place : goal.invariant-loop-place
invariant-loop-place l = l.bare.items ≡ places (counts l.environment None) 0 (take l.place l.dependencies)
