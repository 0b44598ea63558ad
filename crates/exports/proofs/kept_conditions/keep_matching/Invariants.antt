use Rattle.std.proofs.Common.{◌≡◌, take, true}
use Rattle.std.specs.List.{AllByRecursion}
use Rattle.exports.specs.Tied.Answers.{is_matched_alike}
use Rattle.exports.specs.Tied.Kept.{Keeps}
use Rattle.exports.proofs.kept_conditions.keep_matching.Given as goal

abbrev pub invariant-loop-release : goal.invariant-loop-release
invariant-loop-release l = Keeps l.environment l.fn.conditions l.conditions (λ other. AllByRecursion (λ release. is_matched_alike l.environment other l.wanted release ≡ true) (take l.release-index l.releases))
