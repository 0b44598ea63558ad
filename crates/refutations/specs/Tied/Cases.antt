-- The cases of `Follows` as tests.
-- Tied to `IsRefutation` by the contract of `check`; need not be read.
use Rattle.std.specs.Prelude.{◌≡◌, ◌&&◌, ◌||◌, ℕ, Bool, true, List, Option}
use Rattle.std.specs.List.{Contains, list_all, list_any}
use Rattle.pep508.specs.Requirement.{RequirementParts}
use Rattle.problems.specs.Tied.Eligible.{eligible}
use Rattle.problems.specs.Tied.NodeEquality.{is_node}
use Rattle.problems.specs.Problem.{ProblemParts}
use Rattle.problems.specs.Choices.{ChoiceParts}
use Rattle.problems.specs.Rules.{nodes_of, same_version}
use Rattle.problems.specs.declared.node.Node.{Node}

-- whether two choices are one
abbrev pub is_same : ChoiceParts → ChoiceParts → Bool
is_same one other = is_node one.node other.node.name other.node.extra && same_version one.version other.version

-- whether a choice is in the conflict, or is the one that is put to it
abbrev pub is_within : List ChoiceParts → ChoiceParts → ChoiceParts → Bool
is_within conflict choice member = list_any (is_same member) conflict || is_same member choice

-- whether the conflict with one choice more contains an earlier one
abbrev pub completes : List (List ChoiceParts) → List ChoiceParts → ChoiceParts → Bool
completes earlier conflict choice = list_any (λ old. list_all (is_within conflict choice) old) earlier

-- whether it does with each release of the node's name that is a candidate
abbrev pub none_left : ProblemParts → List (List ChoiceParts) → List ChoiceParts → Node → Bool
none_left given earlier conflict node = list_all (λ release. completes earlier conflict (record { node = node; version = release.version })) (eligible given node.name)

-- a requirement needs its name with the extra or with none, and no release is left there
abbrev pub IsLeftOut : ProblemParts → List (List ChoiceParts) → List ChoiceParts → RequirementParts → Option (List ℕ) → Type 0
IsLeftOut given earlier conflict wanted extra =
    Contains (nodes_of wanted) (record { name = wanted.name; extra = extra }) × (none_left given earlier conflict (record { name = wanted.name; extra = extra }) ≡ true)
