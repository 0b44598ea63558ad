-- The version that a solution has for a name is that of a release.
use Rattle.std.proofs.Common.{◌≡◌, ℕ, Bool, true, List, [], ◌∷◌, Option, Some, None, Contains, find, refl, ap, subst, inl, inr}
use Rattle.std.proofs.lemmas.Bool.{cases_Bool}
use Rattle.std.specs.Cmp.{tied_itself}
use Rattle.std.specs.Map.{lookup}
use Rattle.std.specs.Option.{IsSome, is_some, option_and_then, option_map, option_to_list}
use Rattle.std.specs.Ordering.{is_eq}
use Rattle.std.specs.Prelude.{filter, not}
use Rattle.std.specs.Str.{bytes_eq}
use Rattle.pep440.specs.Order.{version_cmp}
use Rattle.pep440.specs.Tied.OrderLaws.{version_total}
use Rattle.pep440.specs.Version.{VersionParts}
use Rattle.search.specs.Solutions.{Solution}
use Rattle.snapshot.specs.Release.{Release}
use Rattle.problems.specs.Admission.{has_version, release_at}
use Rattle.problems.specs.Problem.{ProblemParts, releases_on}
use Rattle.problems.specs.Rules.{candidates, is_held, kept_version, preferring, rules_of, versions_of}
use Rattle.lists.proofs.Members.{Contains-cons_cases, Contains-filter, Contains-here, Contains-nil, Contains-there}

-- a version of releases is found among them
found-in : (releases : List Release) (version : VersionParts) → Contains (versions_of releases) version → is_some (find (has_version version) releases) ≡ true
found-in [] version h = absurd (Contains-nil version h)
found-in (r ∷ rest) version h = elim (cases_Bool (has_version version r)) [
  | inl is ↦ rw is refl
  | inr other ↦ elim (Contains-cons_cases r.version (versions_of rest) version h) [
    | inl same ↦ let tie : has_version version r ≡ true = rw same (ap is_eq (tied_itself version_total version)) in cc
    | inr there ↦ rw other (found-in rest version there)
  ]
]

-- what is found is a version of releases
version-of : (test : Release → Bool) (releases : List Release) (version : VersionParts) → option_map (λ r. r.version) (find test releases) ≡ Some version → Contains (versions_of releases) version
version-of test [] version h = cc
version-of test (r ∷ rest) version h = elim (cases_Bool (test r)) [
  | inl is ↦ let same : r.version ≡ version = let here = rw is at h in cc in subst (λ v. Contains (versions_of (r ∷ rest)) v) same (Contains-here r.version (versions_of rest))
  | inr other ↦ Contains-there r.version (versions_of rest) version (version-of test rest version (rw other at h))
]

kept-by : (given : ProblemParts) (name : List ℕ) (kept : Option VersionParts) (version : VersionParts)
    → option_and_then (λ v. option_map (λ release. release.version) (release_at given name v)) kept ≡ Some version → Contains (versions_of (releases_on given name)) version
kept-by given name None version h = cc
kept-by given name (Some v) version h = version-of (has_version v) (releases_on given name) version h

preferred-by : (versions : List VersionParts) (kept : Option VersionParts) (version : VersionParts) → ((v : VersionParts) → kept ≡ Some v → Contains versions v) → Contains (preferring kept versions) version → Contains versions version
preferred-by versions None version there h = h
preferred-by versions (Some k) version there h = elim (Contains-cons_cases k (filter (λ v. not (is_eq (version_cmp k v))) versions) version h) [
  | inl same ↦ subst (λ v. Contains versions v) same (there k refl)
  | inr other ↦ (Contains-filter (λ v. not (is_eq (version_cmp k v))) versions version other).0
]

alone-by : (versions : List VersionParts) (kept : Option VersionParts) (version : VersionParts) → ((v : VersionParts) → kept ≡ Some v → Contains versions v) → Contains (option_to_list kept) version → Contains versions version
alone-by versions None version there h = absurd (Contains-nil version h)
alone-by versions (Some k) version there h = elim (Contains-cons_cases k [] version h) [
  | inl same ↦ subst (λ v. Contains versions v) same (there k refl)
  | inr never ↦ absurd (Contains-nil version never)
]

-- a candidate of a name is the version of a release
candidate-released : (given : ProblemParts) (name : List ℕ) (version : VersionParts) → Contains (candidates given name) version → IsSome (release_at given name version)
candidate-released given name version h =
    let versions : List VersionParts = versions_of (releases_on given name) in
    let kept : (v : VersionParts) → kept_version given name ≡ Some v → Contains versions v = kept-by given name (lookup (bytes_eq name) given.kept) in
    found-in (releases_on given name) version (elim (cases_Bool (is_held given name)) [
      | inl held ↦ alone-by versions (kept_version given name) version kept (rw held at h)
      | inr free ↦ preferred-by versions (kept_version given name) version kept (rw free at h)
    ])

-- each version of a solution is that of a release
pub solution-released : (given : ProblemParts) (chosen : List ℕ → Option VersionParts) → Solution (rules_of given) chosen → (name : List ℕ) (version : VersionParts) → chosen name ≡ Some version
    → IsSome (release_at given name version)
solution-released given chosen solution name version picked = candidate-released given name version (solution.released name version picked)
