-- Versions that are one: the rules of a problem don't tell them apart.
use Rattle.std.proofs.Common.{◌≡◌, ◌∙◌, inl, inr, true, false, ℕ, List, [], Contains, find, map, sym, ap}
use Rattle.std.proofs.lemmas.Cmp.{eq_by_cmp_equiv}
use Rattle.std.proofs.lemmas.Map.Lookups.{exact_bytes}
use Rattle.std.specs.Cmp.{IsEquivalence}
use Rattle.std.specs.Cmp.Lexicographic.{nat_list_cmp_total}
use Rattle.std.specs.Option.{option_map_or}
use Rattle.pep440.specs.Tied.OrderLaws.{version_total}
use Rattle.pep440.specs.Version.{VersionParts}
use Rattle.search.specs.Conflicts.{IsVersionEquality}
use Rattle.search.specs.Rules.{IsLawful}
use Rattle.snapshot.specs.Release.{Release}
use Rattle.problems.specs.Admission.{admits_release, release_at}
use Rattle.problems.specs.Problem.{ProblemParts, releases_on}
use Rattle.problems.specs.Rules.{bare, nodes_of, rules_of, same_version, wants_of, with_extra}
use Rattle.problems.specs.declared.node.Node.{Node}
use Rattle.pep508.specs.Requirement.{RequirementParts}
use Rattle.lists.proofs.Members.{Contains-cons_cases, Contains-here, Contains-map}

versions-alike : IsEquivalence same_version
versions-alike = eq_by_cmp_equiv version_total

pub same-back : (v w : VersionParts) → same_version v w ≡ true → same_version w v ≡ true
same-back v w h = sym (versions-alike.symm v w) ∙ h

pub apart-back : (v w : VersionParts) → same_version v w ≡ false → same_version w v ≡ false
apart-back v w h = sym (versions-alike.symm v w) ∙ h

pub same-onward : (u v w : VersionParts) → same_version u v ≡ true → same_version v w ≡ true → same_version u w ≡ true
same-onward u v w h k = versions-alike.congr u v w h ∙ k

-- the index has the same release with both
pub release-alike : (given : ProblemParts) (name : List ℕ) (v w : VersionParts) → same_version v w ≡ true → release_at given name v ≡ release_at given name w
release-alike given name v w h = ap (λ test. find test (releases_on given name)) (λ i (release : Release). versions-alike.congr v w release.version h i)

pub equal-versions : (given : ProblemParts) → IsVersionEquality (rules_of given) same_version
equal-versions given = record {
  back = same-back;
  onward = same-onward;
  admits = λ wanted v w h. ap (λ o. option_map_or (admits_release given wanted) o false) (release-alike given wanted.name v w h);
  wants = λ node v w h. ap (λ o. option_map_or (wants_of given.environment node.extra) o []) (release-alike given node.name v w h);
}

own-name : (wanted : RequirementParts) (node : Node) → Contains (nodes_of wanted) node → node.name ≡ wanted.name
own-name wanted node there = elim (Contains-cons_cases (bare wanted.name) (map (with_extra wanted.name) wanted.extras) node there) [
  | inl e ↦ ap (λ (n : Node). n.name) (sym e)
  | inr more ↦ let k = Contains-map (with_extra wanted.name) wanted.extras node more in ap (λ (n : Node). n.name) (sym k.2)
]

pub lawful-rules : (given : ProblemParts) → IsLawful (rules_of given)
lawful-rules given = record {
  order = record { total = nat_list_cmp_total; exact = λ a b e. exact_bytes a b e };
  some = λ wanted. (bare wanted.name, Contains-here (bare wanted.name) (map (with_extra wanted.name) wanted.extras));
  own = own-name;
}
