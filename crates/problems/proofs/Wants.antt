-- What is wanted at a node, the dependencies that count there; and the nodes that a requirement needs.
use Rattle.std.proofs.Common.{◌≡◌, ◌&&◌, ◌∙◌, ℕ, Bool, true, false, List, [], Option, Some, None, Contains, ap, filter, map, refl, sym}
use Rattle.std.specs.List.{list_any}
use Rattle.std.specs.Option.{option_map_or}
use Rattle.pep440.specs.Version.{VersionParts}
use Rattle.pep508.specs.Requirement.{RequirementParts}
use Rattle.snapshot.specs.Release.{Release}
use Rattle.problems.specs.Admission.{dependencies_at, release_at}
use Rattle.problems.specs.Problem.{ProblemParts}
use Rattle.problems.specs.Rules.{bare, counts, nodes_of, wants, wants_of, with_extra}
use Rattle.problems.specs.declared.node.Node.{Node}
use Rattle.problems.proofs.Deciding.{any-filtered, any-mapped}
use Rattle.lists.proofs.Members.{Contains-map_of, Contains-there}

pub counted : (given : ProblemParts) (node : Node) (found : Option Release)
    → filter (counts given.environment node.extra) (option_map_or (λ (release : Release). release.dependencies) found []) ≡ option_map_or (wants_of given.environment node.extra) found []
counted given node None = refl
counted given node (Some release) = refl

pub any-wanted : (p : RequirementParts → Bool) (given : ProblemParts) (node : Node) (version : VersionParts)
    → list_any (λ wanted. counts given.environment node.extra wanted && p wanted) (dependencies_at given node.name version) ≡ list_any p (wants given node version)
any-wanted p given node version =
    any-filtered p (counts given.environment node.extra) (dependencies_at given node.name version) ∙ ap (list_any p) (counted given node (release_at given node.name version))

-- of the nodes that a requirement needs, the name alone comes first
pub none-left_out : (test : Node → Bool) (wanted : RequirementParts) → test (bare wanted.name) ≡ false → list_any (λ extra. test (with_extra wanted.name extra)) wanted.extras ≡ false
    → list_any test (nodes_of wanted) ≡ false
none-left_out test wanted bare_left none =
    let rest : list_any test (map (with_extra wanted.name) wanted.extras) ≡ false = sym (any-mapped test (with_extra wanted.name) wanted.extras) ∙ none in
    rw (bare_left, rest) refl

pub extra-found : (test : Node → Bool) (wanted : RequirementParts) (extra : List ℕ) → Contains wanted.extras extra × (test (with_extra wanted.name extra) ≡ true)
    → Contains (nodes_of wanted) (with_extra wanted.name extra) × (test (with_extra wanted.name extra) ≡ true)
extra-found test wanted extra k =
    (Contains-there (bare wanted.name) (map (with_extra wanted.name) wanted.extras) (with_extra wanted.name extra) (Contains-map_of (with_extra wanted.name) wanted.extras extra k.0), k.1)
