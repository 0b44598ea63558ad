use Rattle.std.proofs.Common.{◌≡◌, take, true}
use Rattle.std.specs.List.{AllByRecursion}
use Rattle.exports.specs.Tied.Answers.{is_matched_alike}
use Rattle.exports.proofs.answers.are_matched_alike.Given as goal

abbrev pub invariant-loop-release : goal.invariant-loop-release
invariant-loop-release l = AllByRecursion (λ x. is_matched_alike l.one l.other l.wanted x ≡ true) (take l.release-index l.releases)
