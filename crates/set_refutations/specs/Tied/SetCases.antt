-- The cases of `SetFollows` as tests.
-- Tied to `SetFollows` by the contract of `set_ground_of`; need not be read.
use Rattle.std.specs.Prelude.{◌&&◌, ◌||◌, not, Bool, true, false, List, [], ◌∷◌, Option, Some, None}
use Rattle.std.specs.List.{list_all, list_any}
use Rattle.std.specs.Str.{bytes_eq}
use Rattle.pep440.specs.Version.{VersionParts}
use Rattle.pep508.specs.Requirement.{RequirementParts}
use Rattle.problems.specs.Admission.{admits}
use Rattle.problems.specs.Tied.ChoiceTests.{differ, refuses}
use Rattle.problems.specs.Tied.Eligible.{eligible}
use Rattle.problems.specs.Tied.NodeEquality.{is_node}
use Rattle.problems.specs.Problem.{ProblemParts}
use Rattle.problems.specs.Rules.{nodes_of, same_version, wants}
use Rattle.set_refutations.specs.SetRefutations.{TermParts}
use Rattle.problems.specs.declared.node.Node.{Node}

-- whether one of the versions equals this one
abbrev pub is_listed : List VersionParts → VersionParts → Bool
is_listed versions version = list_any (λ listed. same_version listed version) versions

-- whether a requirement is on the name of a term and admits none of its versions
abbrev pub refuses_all : ProblemParts → RequirementParts → TermParts → Bool
refuses_all given wanted term = bytes_eq wanted.name term.node.name && list_all (λ version. not (admits given wanted version)) term.versions

-- whether something that a version wants at a node refuses the other version at the other node
abbrev pub refuses_at : ProblemParts → Node → VersionParts → Node → VersionParts → Bool
refuses_at given node version other other_version =
    list_any (λ wanted. refuses given wanted (record { node = other; version = other_version })) (wants given node version)

-- whether two versions can't stand together at these nodes
abbrev pub pair_clashes : ProblemParts → Node → VersionParts → Node → VersionParts → Bool
pair_clashes given node version other other_version =
    differ (record { node = node; version = version }) (record { node = other; version = other_version })
    || (refuses_at given node version other other_version || refuses_at given other other_version node version)

-- whether each version of a term clashes with each of the other
abbrev pub terms_clash : ProblemParts → TermParts → TermParts → Bool
terms_clash given one other = list_all (λ version. list_all (pair_clashes given one.node version other.node) other.versions) one.versions

-- whether each version of a term wants something that admits none of the other's
abbrev pub each_refuses_all : ProblemParts → TermParts → TermParts → Bool
each_refuses_all given one other = list_all (λ version. list_any (λ wanted. refuses_all given wanted other) (wants given one.node version)) one.versions

-- whether one of the terms clashes with itself or with a later one
abbrev pub clash_onward : ProblemParts → List TermParts → Bool
clash_onward given [] = false
clash_onward given (one ∷ others) = list_any (terms_clash given one) (one ∷ others) || clash_onward given others

-- whether the conflict has a term on the node of this one, all of whose versions are among this one's
abbrev pub is_bound : List TermParts → TermParts → Bool
is_bound conflict term = list_any (λ binding. is_node binding.node term.node.name term.node.extra && list_all (is_listed term.versions) binding.versions) conflict

-- whether the term is at the node and has the version
abbrev pub is_at : Node → VersionParts → TermParts → Bool
is_at node version term = is_node term.node node.name node.extra && is_listed term.versions version

-- whether the term is bound by the conflict with this version alone at the node
abbrev pub is_within : List TermParts → Node → VersionParts → TermParts → Bool
is_within conflict node version term = is_at node version term || is_bound conflict term

-- whether the term has the version where it is at the node
abbrev pub fits_at : Node → VersionParts → TermParts → Bool
fits_at node version term = not (is_node term.node node.name node.extra) || is_listed term.versions version

-- whether the term is at the node, or bound by the conflict
abbrev pub is_bound_beside : List TermParts → Node → TermParts → Bool
is_bound_beside conflict node term = is_node term.node node.name node.extra || is_bound conflict term

-- whether the conflict with this version alone at the node contains an earlier one
abbrev pub completes : List (List TermParts) → List TermParts → Node → VersionParts → Bool
completes earlier conflict node version = list_any (list_all (is_within conflict node version)) earlier

-- whether it does with each version of the term
abbrev pub each_completes : List (List TermParts) → List TermParts → TermParts → Bool
each_completes earlier conflict term = list_all (completes earlier conflict term.node) term.versions

-- whether it does with each release of the node's name that is a candidate
abbrev pub none_left : ProblemParts → List (List TermParts) → List TermParts → Node → Bool
none_left given earlier conflict node = list_all (λ release. completes earlier conflict node release.version) (eligible given node.name)

-- whether the requirement needs the node
abbrev pub needs : RequirementParts → Node → Bool
needs wanted node = list_any (λ needed. is_node needed node.name node.extra) (nodes_of wanted)

-- whether each version of a term wants something that needs the node
abbrev pub each_needs : ProblemParts → TermParts → Node → Bool
each_needs given term node = list_all (λ version. list_any (λ wanted. needs wanted node) (wants given term.node version)) term.versions

-- whether each version of the term needs the node, where there is a term
abbrev pub is_needed_by : ProblemParts → Option TermParts → Node → Bool
is_needed_by given None node = true
is_needed_by given (Some term) node = each_needs given term node

-- whether no candidate is left for a node which each version of the term needs, where there is a term
abbrev pub is_left_out : ProblemParts → List (List TermParts) → List TermParts → Option TermParts → Node → Bool
is_left_out given earlier conflict term node = none_left given earlier conflict node && is_needed_by given term node

-- whether each version of a term needs a node that the first one needs, and for which no candidate is left
abbrev pub none_left_behind : ProblemParts → List (List TermParts) → List TermParts → TermParts → List VersionParts → Bool
none_left_behind given earlier conflict term [] = false
none_left_behind given earlier conflict term (first ∷ others) =
    list_any (λ wanted. list_any (is_left_out given earlier conflict (Some term)) (nodes_of wanted)) (wants given term.node first)
