use Rattle.std.proofs.Common.{◌≡◌, take, true}
use Rattle.std.specs.List.{AllByRecursion}
use Rattle.exports.specs.Tied.Answers.{are_matched_alike}
use Rattle.exports.specs.Tied.Kept.{Keeps}
use Rattle.exports.proofs.conditions.keep_asked.Given as goal

abbrev pub invariant-loop-wanted : goal.invariant-loop-wanted
invariant-loop-wanted l =
    Keeps l.environment l.fn.conditions l.conditions
    (λ other. AllByRecursion (λ wanted. are_matched_alike l.environment other l.snapshot wanted ≡ true) (take l.wanted-index l.asked))
