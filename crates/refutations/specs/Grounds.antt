-- What a conflict rests on: the case by which it follows, with the members that are named of it.
use Rattle.std.specs.Prelude.{◌≡◌, List, Some}
use Rattle.std.specs.List.{Contains, slice_get}
use Rattle.std.specs.Option.{option_copied}
use Rattle.search.specs.Conflicts.{ChoicesClash, LineRefuses, NoneLeft, VersionsDiffer}
use Rattle.pep508.specs.Requirement.{RequirementParts}
use Rattle.problems.specs.Problem.{ProblemParts}
use Rattle.problems.specs.Choices.{ChoiceParts}
use Rattle.problems.specs.Rules.{nodes_of, rules_of, same_version, wants}
use Rattle.refutations.specs.declared.ground.Ground.{Ground}
use Rattle.refutations.specs.declared.ground.Ground.TheVariants.{ChoicesClash as Clash, LineRefuses as Refused, NoneLeft as Exhausted, VersionsDiffer as Differ}
use Rattle.refutations.specs.declared.ground.Need.{Need}
use Rattle.refutations.specs.declared.ground.Need.TheVariants.{Dependency, Line}
use Rattle.problems.specs.declared.node.Node.{Node}

-- what needs a node: the active line at a place, or a dependency of a choice that counts at its node
abbrev pub IsNeededBy : ProblemParts → List ChoiceParts → Node → Need → Type 0
IsNeededBy given conflict node (Line place) = (line : RequirementParts) × (slice_get given.active place ≡ Some line) × Contains (nodes_of line) node
IsNeededBy given conflict node (Dependency one wanted) = Contains conflict one.now × Contains (wants given one.now.node one.now.version) wanted.now × Contains (nodes_of wanted.now) node

-- a ground by which the conflict follows from earlier ones
abbrev pub IsGround : ProblemParts → List (List ChoiceParts) → List ChoiceParts → Ground → Type 0
IsGround given earlier conflict (Refused place choice) =
    (case : LineRefuses (rules_of given) conflict) × (case.choice ≡ choice.now) × (slice_get given.active place ≡ Some case.line)
IsGround given earlier conflict (Clash one wanted other) =
    (case : ChoicesClash (rules_of given) conflict) × (case.one ≡ one.now) × (case.wanted ≡ wanted.now) × (case.other ≡ other.now)
IsGround given earlier conflict (Differ one other) =
    (case : VersionsDiffer (rules_of given) same_version conflict) × (case.one ≡ one.now) × (case.other ≡ other.now)
IsGround given earlier conflict (Exhausted need name extra) =
    (case : NoneLeft (rules_of given) same_version earlier conflict) × (case.node ≡ record { name = name.now; extra = option_copied extra }) × IsNeededBy given conflict case.node need
