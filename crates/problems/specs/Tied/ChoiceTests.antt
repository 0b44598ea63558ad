-- Whether a requirement refuses a choice, and whether two choices are two versions for one name.
-- Tied to `Follows` and `SetFollows` by the contracts of `check` in `refutations` and `check_sets` in `set_refutations`; need not be read.
use Rattle.std.specs.Prelude.{◌&&◌, not, Bool}
use Rattle.std.specs.Str.{bytes_eq}
use Rattle.pep508.specs.Requirement.{RequirementParts}
use Rattle.problems.specs.Admission.{admits}
use Rattle.problems.specs.Choices.{ChoiceParts}
use Rattle.problems.specs.Problem.{ProblemParts}
use Rattle.problems.specs.Rules.{same_version}

-- whether a requirement is on the name of a choice and doesn't admit its version
abbrev pub refuses : ProblemParts → RequirementParts → ChoiceParts → Bool
refuses given wanted choice = bytes_eq wanted.name choice.node.name && not (admits given wanted choice.version)

-- whether two choices are two versions for one name
abbrev pub differ : ChoiceParts → ChoiceParts → Bool
differ one other = bytes_eq one.node.name other.node.name && not (same_version one.version other.version)
