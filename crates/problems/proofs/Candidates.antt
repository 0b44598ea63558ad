-- The candidates of a name are the versions of its eligible releases.
use Rattle.std.proofs.Common.{◌≡◌, inl, inr, not, ℕ, Bool, true, List, [], ◌∷◌, Option, Some, None, Contains, find, filter, option_map, refl, ap, subst}
use Rattle.std.specs.Map.{lookup}
use Rattle.std.specs.Option.{option_and_then, option_to_list}
use Rattle.std.specs.Ordering.{is_eq}
use Rattle.std.specs.Str.{bytes_eq}
use Rattle.std.proofs.lemmas.Bool.{cases_Bool}
use Rattle.pep440.specs.Order.{version_cmp}
use Rattle.pep440.specs.Version.{VersionParts}
use Rattle.snapshot.specs.Release.{Release}
use Rattle.problems.specs.Admission.{has_version}
use Rattle.problems.specs.Problem.{ProblemParts, releases_on}
use Rattle.problems.specs.Rules.{candidates, is_held, kept_version, preferring, same_version, versions_of}
use Rattle.problems.specs.Tied.Eligible.{eligible}
use Rattle.problems.proofs.Deciding.{IsThere, there-more}
use Rattle.lists.proofs.Members.{Contains-cons_cases, Contains-filter, Contains-filter_of, Contains-here, Contains-map, Contains-map_of, Contains-nil, Contains-there}

-- some release has the version
abbrev pub IsReleased : List Release → VersionParts → Type 0
IsReleased releases version = IsThere (λ (release : Release). release.version ≡ version) releases

found-released : (test : Release → Bool) (releases : List Release) (version : VersionParts) → option_map (λ (release : Release). release.version) (find test releases) ≡ Some version → IsReleased releases version
found-released test [] version e = absurd cc
found-released test (r ∷ rs) version e = elim (cases_Bool (test r)) [
  | inl passes ↦ let k = rw passes at e in record { item = r; there = Contains-here r rs; is = cc }
  | inr fails ↦ there-more (λ (release : Release). release.version ≡ version) r rs (found-released test rs version (rw fails at e))
]

kept-released : (releases : List Release) (kept : Option VersionParts) (version : VersionParts)
    → option_and_then (λ v. option_map (λ (release : Release). release.version) (find (has_version v) releases)) kept ≡ Some version → IsReleased releases version
kept-released releases None version e = absurd cc
kept-released releases (Some v) version e = found-released (has_version v) releases version e

mapped-released : (releases : List Release) (version : VersionParts) → Contains (versions_of releases) version → IsReleased releases version
mapped-released releases version there = let k = Contains-map (λ (release : Release). release.version) releases version there in record { item = k.0; there = k.1; is = k.2 }

preferring-released : (releases : List Release) (kept : Option VersionParts) (version : VersionParts) → ((v : VersionParts) → kept ≡ Some v → IsReleased releases v)
    → Contains (preferring kept (versions_of releases)) version → IsReleased releases version
preferring-released releases None version known there = mapped-released releases version there
preferring-released releases (Some v) version known there =
    let others : VersionParts → Bool = λ w. not (is_eq (version_cmp v w)) in
    elim (Contains-cons_cases v (filter others (versions_of releases)) version there) [
      | inl e ↦ subst (λ w. IsReleased releases w) e (known v refl)
      | inr more ↦ mapped-released releases version (Contains-filter others (versions_of releases) version more).0
    ]

-- what holds with each candidate holds with each release, where it doesn't tell equal versions apart
preferring-all : (releases : List Release) (kept : Option VersionParts) (P : VersionParts → Type 0) → ((v w : VersionParts) → same_version v w ≡ true → P v → P w)
    → ((v : VersionParts) → Contains (preferring kept (versions_of releases)) v → P v) → (release : Release) → Contains releases release → P release.version
preferring-all releases None P alike each release there = each release.version (Contains-map_of (λ (r : Release). r.version) releases release there)
preferring-all releases (Some v) P alike each release there =
    let others : VersionParts → Bool = λ w. not (is_eq (version_cmp v w)) in
    let listed : Contains (versions_of releases) release.version = Contains-map_of (λ (r : Release). r.version) releases release there in
    elim (cases_Bool (same_version v release.version)) [
      | inl same ↦ alike v release.version same (each v (Contains-here v (filter others (versions_of releases))))
      | inr apart ↦ each release.version (Contains-there v (filter others (versions_of releases)) release.version (Contains-filter_of others (versions_of releases) release.version listed (ap not apart)))
    ]

-- the release that is kept, alone
alone-released : (found : Option Release) (version : VersionParts) → Contains (option_to_list (option_map (λ (release : Release). release.version) found)) version → IsReleased (option_to_list found) version
alone-released None version there = absurd (Contains-nil version there)
alone-released (Some release) version there = mapped-released (release ∷ []) version there

held-released : (releases : List Release) (kept : Option VersionParts) (version : VersionParts)
    → Contains (option_to_list (option_and_then (λ v. option_map (λ (release : Release). release.version) (find (has_version v) releases)) kept)) version
    → IsReleased (option_to_list (option_and_then (λ v. find (has_version v) releases) kept)) version
held-released releases None version there = absurd (Contains-nil version there)
held-released releases (Some v) version there = alone-released (find (has_version v) releases) version there

alone-all : (found : Option Release) (P : VersionParts → Type 0) → ((v : VersionParts) → Contains (option_to_list (option_map (λ (release : Release). release.version) found)) v → P v)
    → (release : Release) → Contains (option_to_list found) release → P release.version
alone-all None P each release there = absurd (Contains-nil release there)
alone-all (Some one) P each release there = each release.version (Contains-map_of (λ (r : Release). r.version) (one ∷ []) release there)

held-all : (releases : List Release) (kept : Option VersionParts) (P : VersionParts → Type 0)
    → ((v : VersionParts) → Contains (option_to_list (option_and_then (λ w. option_map (λ (release : Release). release.version) (find (has_version w) releases)) kept)) v → P v)
    → (release : Release) → Contains (option_to_list (option_and_then (λ w. find (has_version w) releases) kept)) release → P release.version
held-all releases None P each release there = absurd (Contains-nil release there)
held-all releases (Some v) P each release there = alone-all (find (has_version v) releases) P each release there

-- a candidate is the version of an eligible release
pub candidate-eligible : (given : ProblemParts) (name : List ℕ) (version : VersionParts) → Contains (candidates given name) version → IsReleased (eligible given name) version
candidate-eligible given name version there =
    let releases : List Release = releases_on given name in
    let kept : Option VersionParts = lookup (bytes_eq name) given.kept in
    elim (cases_Bool (is_held given name)) [
      | inl held ↦ rw held (held-released releases kept version (rw held at there))
      | inr free ↦ rw free (preferring-released releases (kept_version given name) version (kept-released releases kept) (rw free at there))
    ]

-- what holds with each candidate holds with each eligible release, where it doesn't tell equal versions apart
pub eligible-all : (given : ProblemParts) (name : List ℕ) (P : VersionParts → Type 0) → ((v w : VersionParts) → same_version v w ≡ true → P v → P w)
    → ((v : VersionParts) → Contains (candidates given name) v → P v) → (release : Release) → Contains (eligible given name) release → P release.version
eligible-all given name P alike each release there =
    let releases : List Release = releases_on given name in
    let kept : Option VersionParts = lookup (bytes_eq name) given.kept in
    elim (cases_Bool (is_held given name)) [
      | inl held ↦ held-all releases kept P (rw held at each) release (rw held at there)
      | inr free ↦ preferring-all releases (kept_version given name) P alike (rw free at each) release (rw free at there)
    ]
