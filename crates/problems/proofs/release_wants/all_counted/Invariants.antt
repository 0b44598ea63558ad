use Rattle.std.proofs.Common.{◌≡◌, Some, filter, map, take}
use Rattle.problems.specs.Rules.{counts}
use Rattle.problems.specs.Tied.ByExtra.{Depending}
use Rattle.problems.proofs.release_wants.all_counted.Given as goal

abbrev pub invariant-loop-group : goal.invariant-loop-group
invariant-loop-group l = l.rows.items ≡ map (λ (g : Depending). filter (counts g.environment (Some l.extra)) g.dependencies) (take l.group-index l.groups)
