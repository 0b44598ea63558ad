use Rattle.std.proofs.Common.{◌≡◌, take, true}
use Rattle.std.specs.List.{AllByRecursion}
use Rattle.exports.specs.Tied.Answers.{is_wanted_alike}
use Rattle.exports.proofs.answers.are_dependencies_alike.Given as goal

abbrev pub invariant-loop-dependency : goal.invariant-loop-dependency
invariant-loop-dependency l = AllByRecursion (λ x. is_wanted_alike l.one l.other x ≡ true) (take l.dependency-index l.dependencies)
