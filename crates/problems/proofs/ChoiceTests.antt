-- The tests of two choices, and of a requirement and a choice, decide what they are named for.
use Rattle.std.proofs.Common.{◌≡◌, not, false}
use Rattle.std.specs.Bool.{Decides}
use Rattle.std.specs.Str.{bytes_eq}
use Rattle.std.proofs.lemmas.Slice.Eq.{bytes_eq-Decides}
use Rattle.pep508.specs.Requirement.{RequirementParts}
use Rattle.problems.specs.Admission.{admits}
use Rattle.problems.specs.Choices.{ChoiceParts}
use Rattle.problems.specs.Problem.{ProblemParts}
use Rattle.problems.specs.Rules.{same_version}
use Rattle.problems.specs.Tied.ChoiceTests.{differ, refuses}
use Rattle.problems.proofs.Deciding.{decides-both, decides-not}

abbrev pub IsRefused : ProblemParts → RequirementParts → ChoiceParts → Type 0
IsRefused given wanted choice = (wanted.name ≡ choice.node.name) × (admits given wanted choice.version ≡ false)

pub refuses-decides : (given : ProblemParts) (wanted : RequirementParts) (choice : ChoiceParts) → Decides (refuses given wanted choice) (IsRefused given wanted choice)
refuses-decides given wanted choice =
    decides-both (bytes_eq wanted.name choice.node.name) (not (admits given wanted choice.version)) (bytes_eq-Decides wanted.name choice.node.name) (decides-not (admits given wanted choice.version))

abbrev pub AreApart : ChoiceParts → ChoiceParts → Type 0
AreApart one other = (one.node.name ≡ other.node.name) × (same_version one.version other.version ≡ false)

pub differ-decides : (one other : ChoiceParts) → Decides (differ one other) (AreApart one other)
differ-decides one other =
    decides-both (bytes_eq one.node.name other.node.name) (not (same_version one.version other.version)) (bytes_eq-Decides one.node.name other.node.name) (decides-not (same_version one.version other.version))
