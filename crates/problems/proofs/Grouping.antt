-- Dependencies of releases that are grouped by extras.
use Rattle.std.proofs.Common.{◌≡◌, ◌∙◌, ℕ, true, List, [], ◌∷◌, Option, Some, None, filter, map, refl, ap, sym, subst, inl, inr}
use Rattle.std.proofs.lemmas.Bool.{cases_Bool}
use Rattle.std.proofs.lemmas.Map.Text.{is_eq-slice_cmp}
use Rattle.std.proofs.lemmas.Slice.Eq.{bytes_eq-Decides}
use Rattle.std.specs.BTreeMap.{BTreeMap, Updates, UpdatesBy, get, is_at}
use Rattle.std.specs.Cmp.Lexicographic.{slice_cmp}
use Rattle.std.specs.Option.{option_map_or}
use Rattle.std.specs.Ordering.{nat_cmp}
use Rattle.pep440.specs.Version.{VersionParts}
use Rattle.snapshot.specs.Release.{Release}
use Rattle.problems.specs.Admission.{dependencies_at, release_at}
use Rattle.problems.specs.Problem.{ProblemParts, releases_on}
use Rattle.problems.specs.Rules.{counts, same_version, wants, wants_of}
use Rattle.problems.specs.Tied.ByExtra.{Depending}
use Rattle.problems.specs.Tied.GroupedReleases.{grouped_on}
use Rattle.problems.specs.declared.node.Node.{Node}
use Rattle.problems.proofs.Equals.{release-alike}

-- the dependencies that count at a node are what is wanted there
pub wants-counted : (given : ProblemParts) (node : Node) (version : VersionParts) → filter (counts given.environment node.extra) (dependencies_at given node.name version) ≡ wants given node version
wants-counted given node version = counted (release_at given node.name version)
  where
    counted : (o : Option Release) → filter (counts given.environment node.extra) (option_map_or (λ release. release.dependencies) o []) ≡ option_map_or (wants_of given.environment node.extra) o []
    counted None = refl
    counted (Some release) = refl

-- equal versions have the same dependencies
pub dependencies-alike : (given : ProblemParts) (name : List ℕ) (v w : VersionParts) → same_version v w ≡ true → dependencies_at given name v ≡ dependencies_at given name w
dependencies-alike given name v w same = ap (λ o. option_map_or (λ (release : Release). release.dependencies) o []) (release-alike given name v w same)

-- what a map has for names is lawful: nothing is there
pub none-lawful : {X : Type 0} (Law : List ℕ → X → Type 0) (by_name : BTreeMap (List ℕ) X) → by_name.entries ≡ [] → (name : List ℕ) (x : X) → get (slice_cmp nat_cmp) by_name name ≡ Some x → Law name x
none-lawful {X} Law by_name empty name x there = absurd (let k : None ≡ Some x = rw empty at there in cc)

-- one is taken out
pub lawful-out : {X : Type 0} (Law : List ℕ → X → Type 0) (old new : BTreeMap (List ℕ) X) (name : List ℕ) → ((other : List ℕ) (x : X) → get (slice_cmp nat_cmp) old other ≡ Some x → Law other x) → UpdatesBy (slice_cmp nat_cmp) (slice_cmp nat_cmp name) old new None
    → (other : List ℕ) (x : X) → get (slice_cmp nat_cmp) new other ≡ Some x → Law other x
lawful-out Law old new name all out other x there = elim (cases_Bool (is_at (slice_cmp nat_cmp name) other)) [
  | inl one ↦ absurd (let k : None ≡ Some x = sym (out.0 other ∙ rw one refl) ∙ there in cc)
  | inr off ↦ all other x (sym (out.0 other ∙ rw off refl) ∙ there)
]

-- one is put there
pub lawful-put : {X : Type 0} (Law : List ℕ → X → Type 0) (old new : BTreeMap (List ℕ) X) (name : List ℕ) (put : X) → ((other : List ℕ) (x : X) → get (slice_cmp nat_cmp) old other ≡ Some x → Law other x) → Law name put → Updates (slice_cmp nat_cmp) old new name (Some put)
    → (other : List ℕ) (x : X) → get (slice_cmp nat_cmp) new other ≡ Some x → Law other x
lawful-put Law old new name put all is back other x there = elim (cases_Bool (is_at (slice_cmp nat_cmp name) other)) [
  | inl one ↦
      let same : name ≡ other = (bytes_eq-Decides name other).0 (sym (is_eq-slice_cmp name other) ∙ one) in
      let it : put ≡ x = let k : Some put ≡ Some x = sym (back.0 other ∙ rw one refl) ∙ there in cc in
      subst (λ n. Law n x) same (subst (Law name) it is)
  | inr off ↦ all other x (sym (back.0 other ∙ rw off refl) ∙ there)
]

-- of each release, the dependencies that count with an extra are what is wanted there
pub counted-on : (given : ProblemParts) (extra : List ℕ) (name : List ℕ) → map (λ (d : Depending). filter (counts d.environment (Some extra)) d.dependencies) (grouped_on given name) ≡ map (wants_of given.environment (Some extra)) (releases_on given name)
counted-on given extra name = each (releases_on given name)
  where
    each : (releases : List Release) → map (λ (d : Depending). filter (counts d.environment (Some extra)) d.dependencies) (map (λ (release : Release). record { environment = given.environment; dependencies = release.dependencies }) releases) ≡ map (wants_of given.environment (Some extra)) releases
    each [] = refl
    each (release ∷ releases) = ap (λ rows. wants_of given.environment (Some extra) release ∷ rows) (each releases)
