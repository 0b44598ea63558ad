use Rattle.std.proofs.Common.{◌≡◌, filter, take}
use Rattle.std.specs.Option.{option_copied}
use Rattle.problems.specs.Rules.{counts}
use Rattle.problems.proofs.wanted.counted.Given as goal

abbrev pub invariant-loop-dependency : goal.invariant-loop-dependency
invariant-loop-dependency l = l.wanted ≡ filter (counts l.environment (option_copied l.extra)) (take l.dependency-index l.dependencies)
