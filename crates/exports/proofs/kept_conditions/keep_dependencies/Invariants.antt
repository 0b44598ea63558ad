use Rattle.std.proofs.Common.{◌≡◌, take, true}
use Rattle.std.specs.List.{AllByRecursion}
use Rattle.exports.specs.Tied.Answers.{is_wanted_alike}
use Rattle.exports.specs.Tied.Kept.{Keeps}
use Rattle.exports.proofs.kept_conditions.keep_dependencies.Given as goal

abbrev pub invariant-loop-dependency : goal.invariant-loop-dependency
invariant-loop-dependency l = Keeps l.environment l.fn.conditions l.conditions (λ other. AllByRecursion (λ dependency. is_wanted_alike l.environment other dependency ≡ true) (take l.dependency-index l.dependencies))
