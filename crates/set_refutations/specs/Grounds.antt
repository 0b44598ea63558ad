-- What a conflict of sets rests on: the case by which it follows, with the members that are named of it.
use Rattle.std.specs.Prelude.{◌≡◌, ◌≤◌, List, Some}
use Rattle.std.specs.List.{Contains, slice_get}
use Rattle.std.specs.Option.{option_copied}
use Rattle.pep440.specs.Version.{VersionParts}
use Rattle.search.specs.SetConflicts.{EachVersion, LineRefusesSet, NoCandidateLeft, SetsClash}
use Rattle.pep508.specs.Requirement.{RequirementParts}
use Rattle.problems.specs.Problem.{ProblemParts}
use Rattle.problems.specs.Rules.{nodes_of, rules_of, same_version, wants}
use Rattle.set_refutations.specs.SetRefutations.{TermParts}
use Rattle.problems.specs.declared.node.Node.{Node}
use Rattle.set_refutations.specs.declared.set_ground.SetGround.{SetGround}
use Rattle.set_refutations.specs.declared.set_ground.SetGround.TheVariants.{EachVersion as Each, LineRefuses as RefusedSet, NoneLeft as ExhaustedSet, TermsClash}
use Rattle.set_refutations.specs.declared.set_ground.SetNeed.{SetNeed}
use Rattle.set_refutations.specs.declared.set_ground.SetNeed.TheVariants.{Line as ByLine, Term as ByTerm}

-- what needs a node: the active line at a place, or each version of the term at a place
abbrev pub IsSetNeededBy : ProblemParts → List TermParts → Node → SetNeed → Type 0
IsSetNeededBy given conflict node (ByLine place) = (line : RequirementParts) × (slice_get given.active place ≡ Some line) × Contains (nodes_of line) node
IsSetNeededBy given conflict node (ByTerm place) =
    (term : TermParts) × (slice_get conflict place ≡ Some term)
    × ((version : VersionParts) → Contains term.versions version → (wanted : RequirementParts) × Contains (wants given term.node version) wanted × Contains (nodes_of wanted) node)

-- a ground by which the conflict of sets follows from earlier ones
abbrev pub IsSetGround : ProblemParts → List (List TermParts) → List TermParts → SetGround → Type 0
IsSetGround given earlier conflict (RefusedSet line term) =
    (case : LineRefusesSet (rules_of given) conflict) × (slice_get given.active line ≡ Some case.line) × (slice_get conflict term ≡ Some case.term)
IsSetGround given earlier conflict (TermsClash one other) =
    (case : SetsClash (rules_of given) same_version conflict) × (slice_get conflict one ≡ Some case.one) × (slice_get conflict other ≡ Some case.other) × (one ≤ other)
IsSetGround given earlier conflict (Each term) =
    (case : EachVersion same_version earlier conflict) × (slice_get conflict term ≡ Some case.term)
IsSetGround given earlier conflict (ExhaustedSet need name extra) =
    (case : NoCandidateLeft (rules_of given) same_version earlier conflict) × (case.node ≡ record { name = name.now; extra = option_copied extra }) × IsSetNeededBy given conflict case.node need
