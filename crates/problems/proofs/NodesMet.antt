-- The nodes that a walk can meet: those that active lines and releases of the index ask for.
use Rattle.std.proofs.Common.{◌≡◌, ◌+◌, ◌≤◌, ◌&&◌, inl, inr, ℕ, Bool, List, [], ◌∷◌, Option, Some, None, Contains, filter, find, length, length-append, arith, ap, refl}
use Rattle.std.proofs.lemmas.Bool.{cases_Bool}
use Rattle.std.specs.List.{flat_map}
use Rattle.std.specs.Option.{option_map_or}
use Rattle.std.proofs.lemmas.List.Elements.{Contains-append_left, Contains-append_right}
use Rattle.pep440.specs.Version.{VersionParts}
use Rattle.pep508.specs.Requirement.{RequirementParts}
use Rattle.search.specs.Solutions.{Needed, by_dependency, by_line}
use Rattle.snapshot.specs.Packages.{is_named}
use Rattle.snapshot.specs.Release.{Release}
use Rattle.snapshot.specs.declared.package.Package.{Package}
use Rattle.problems.specs.Admission.{dependencies_at, has_version, release_at}
use Rattle.problems.specs.Tied.Growing.{nodes_met, requirements_met}
use Rattle.problems.specs.Problem.{ProblemParts, releases_on}
use Rattle.problems.specs.Tied.ByExtra.{names_extra}
use Rattle.problems.specs.Tied.OwnNeeds.{own_rules, own_wants, own_wants_of}
use Rattle.markers.specs.Environment.{Texts}
use Rattle.problems.specs.Rules.{counts, rules_of, wants_of}
use Rattle.problems.specs.declared.node.Node.{Node}
use Rattle.problems.proofs.Closing.{asked-from}
use Rattle.problems.proofs.OwnNeeds.{own-needed}
use Rattle.problems.proofs.Deciding.{found-is}
use Rattle.lists.proofs.Members.{Contains-cons_cases, Contains-filter, Contains-flat_map_of, Contains-nil}

-- a release of a name is one of a package
released : (name : List ℕ) (packages : List Package) (release : Release) (o : Option Package) → find (is_named name) packages ≡ o → Contains (option_map_or (λ p. p.releases) o []) release → (p : Package) × Contains packages p × Contains p.releases release
released name packages release None is there = absurd (Contains-nil release there)
released name packages release (Some p) is there = (p, (found-is (is_named name) packages p is).0, there)

pub dependency-met : (given : ProblemParts) (name : List ℕ) (release : Release) (wanted : RequirementParts) → Contains (releases_on given name) release → Contains release.dependencies wanted → Contains (requirements_met given) wanted
dependency-met given name release wanted there asked =
    let f : Package → List RequirementParts = λ p. flat_map (λ r. r.dependencies) p.releases in
    let k : (p : Package) × Contains given.index.packages p × Contains p.releases release = released name given.index.packages release (find (is_named name) given.index.packages) refl there in
    Contains-append_right given.active (flat_map f given.index.packages) wanted
    (Contains-flat_map_of f given.index.packages k.0 wanted k.1 (Contains-flat_map_of (λ r. r.dependencies) k.0.releases release wanted k.2 asked))

-- so is what is wanted at a node
wanted-met : (given : ProblemParts) (node : Node) (wanted : RequirementParts) (version : VersionParts) (o : Option Release) → release_at given node.name version ≡ o → Contains (option_map_or (wants_of given.environment node.extra) o []) wanted → Contains (requirements_met given) wanted
wanted-met given node wanted version None is there = absurd (Contains-nil wanted there)
wanted-met given node wanted version (Some release) is there =
    dependency-met given node.name release wanted (found-is (has_version version) (releases_on given node.name) release is).0
    (Contains-filter (counts given.environment node.extra) release.dependencies wanted there).0

-- whatever is chosen, each node that is needed can be met
pub needed-met : (given : ProblemParts) (chosen : List ℕ → Option VersionParts) (node : Node) → Needed (rules_of given) chosen node → Contains (nodes_met given) node
needed-met given chosen _ (by_line wanted node h i) =
    asked-from (requirements_met given) wanted node (Contains-append_left given.active (flat_map (λ p. flat_map (λ r. r.dependencies) p.releases) given.index.packages) wanted h) i
needed-met given chosen _ (by_dependency link version wanted node k e w i) =
    asked-from (requirements_met given) wanted node (wanted-met given link wanted version (release_at given link.name version) refl w) i

-- ---- how much a node can want

pub length-filter : {A : Type 0} (p : A → Bool) (xs : List A) → length (filter p xs) ≤ length xs
length-filter p [] = omega arith
length-filter p (x ∷ xs) = let k : length (filter p xs) ≤ length xs = length-filter p xs in elim (cases_Bool (p x)) [ inl passes ↦ rw passes (omega arith) | inr fails ↦ rw fails (omega arith) ]

-- one of the lists that are put together is no longer than all
length-member : {A B : Type 0} (f : A → List B) (xs : List A) (x : A) → Contains xs x → length (f x) ≤ length (flat_map f xs)
length-member f [] x there = absurd (Contains-nil x there)
length-member f (y ∷ xs) x there =
    let e : length (flat_map f (y ∷ xs)) ≡ length (f y) + length (flat_map f xs) = length-append (f y) (flat_map f xs) in
    elim (Contains-cons_cases y xs x there) [
      | inl same ↦ let k : length (f y) ≡ length (f x) = ap (λ z. length (f z)) same in omega arith
      | inr later ↦ let k : length (f x) ≤ length (flat_map f xs) = length-member f xs x later in omega arith
    ]

few-of : (given : ProblemParts) (name : List ℕ) (version : VersionParts) (o : Option Release) → release_at given name version ≡ o → length (option_map_or (λ (release : Release). release.dependencies) o []) ≤ length (requirements_met given)
few-of given name version None is = omega arith
few-of given name version (Some release) is =
    let f : Package → List RequirementParts = λ p. flat_map (λ r. r.dependencies) p.releases in
    let there : Contains (releases_on given name) release = (found-is (has_version version) (releases_on given name) release is).0 in
    let k : (p : Package) × Contains given.index.packages p × Contains p.releases release = released name given.index.packages release (find (is_named name) given.index.packages) refl there in
    let one : length release.dependencies ≤ length (f k.0) = length-member (λ (r : Release). r.dependencies) k.0.releases release k.2 in
    let all : length (f k.0) ≤ length (flat_map f given.index.packages) = length-member f given.index.packages k.0 k.1 in
    let e = length-append given.active (flat_map f given.index.packages) in
    omega arith

-- the dependencies of a release are no more than all that can be met
pub dependencies-few : (given : ProblemParts) (name : List ℕ) (version : VersionParts) → length (dependencies_at given name version) ≤ length (requirements_met given)
dependencies-few given name version = few-of given name version (release_at given name version) refl

-- ---- by what nodes want of their own

pub own-met : (given : ProblemParts) (chosen : List ℕ → Option VersionParts) (node : Node) → Needed (own_rules given) chosen node → Contains (nodes_met given) node
own-met given chosen node needed = needed-met given chosen node (own-needed given chosen node needed)

own-shorter : (environment : Texts) (extra : Option (List ℕ)) (dependencies : List RequirementParts) → length (own_wants_of environment extra dependencies) ≤ length dependencies
own-shorter environment None dependencies = length-filter (counts environment None) dependencies
own-shorter environment (Some extra) dependencies = length-filter (λ w. names_extra extra w && counts environment (Some extra) w) dependencies

pub own-few : (given : ProblemParts) (node : Node) (version : VersionParts) → length (own_wants given node version) ≤ length (requirements_met given)
own-few given node version =
    let own = own-shorter given.environment node.extra (dependencies_at given node.name version) in
    let few = dependencies-few given node.name version in
    omega arith
