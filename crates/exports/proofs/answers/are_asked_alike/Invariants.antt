use Rattle.std.proofs.Common.{◌≡◌, take, true}
use Rattle.std.specs.List.{AllByRecursion}
use Rattle.exports.specs.Tied.Answers.{are_matched_alike}
use Rattle.exports.proofs.answers.are_asked_alike.Given as goal

abbrev pub invariant-loop-wanted : goal.invariant-loop-wanted
invariant-loop-wanted l = AllByRecursion (λ x. are_matched_alike l.one l.other l.snapshot x ≡ true) (take l.wanted-index l.asked)
