-- Conditions under which each question that counts is answered alike.
use Rattle.std.proofs.Common.{◌≡◌, ℕ, List, [], true}
use Rattle.std.specs.List.{AllByRecursion}
use Rattle.markers.specs.Environment.{Texts}
use Rattle.pep508.specs.Requirement.{RequirementParts}
use Rattle.snapshot.specs.Packages.{Index}
use Rattle.exports.specs.Conditions.{MeetsAll}
use Rattle.exports.specs.Questions.{AnswerEachAlike}
use Rattle.exports.specs.Tied.Answers.{are_matched_alike, is_line_alike}
use Rattle.exports.specs.Tied.Kept.{Keeps}
use Rattle.exports.specs.Tied.Reach.{AreAsked}
use Rattle.exports.specs.declared.condition.Condition.{Condition}
use Rattle.exports.proofs.EachAnswer.{all-so, each-alike}

pub each-settled : (lines : List (List ℕ)) (index : Index) (asked : List RequirementParts) (environment : Texts) (some all least : List Condition) → AreAsked lines index asked
    → Keeps environment [] some (λ other. AllByRecursion (λ line. is_line_alike environment other line ≡ true) lines)
    → Keeps environment some all (λ other. AllByRecursion (λ wanted. are_matched_alike environment other index wanted ≡ true) asked)
    → ((other : Texts) → MeetsAll environment other least → MeetsAll environment other all)
    → (other : Texts) → MeetsAll environment other least → AnswerEachAlike lines index environment other
each-settled lines index asked environment some all least are k l m other h = each-alike lines index asked environment other are (record {
  of_lines = all-so (is_line_alike environment other) lines (k.settled other (l.stronger other (m other h)));
  of_asked = all-so (are_matched_alike environment other index) asked (l.settled other (m other h));
})
