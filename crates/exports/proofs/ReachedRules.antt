-- The rules of a problem agree with those of another environment on all that lines can ask for, where the answers are the same.
use Rattle.std.proofs.Common.{◌≡◌, ◌∙◌, ◌&&◌, ◌||◌, not, inl, inr, ℕ, Bool, true, false, List, [], ◌∷◌, ◌++◌, Contains, Option, Some, None, Result, Ok, Err, find, filter, refl, ap, subst, sym, if◌then◌else◌}
use Rattle.std.specs.Cmp.{first_so}
use Rattle.std.specs.List.{AllByRecursion, list_any}
use Rattle.std.specs.Option.{option_map_or}
use Rattle.std.specs.Str.{bytes_eq}
use Rattle.std.proofs.lemmas.Bool.{cases_Bool}
use Rattle.lists.proofs.Members.{Contains-cons_cases, Contains-filter, Contains-flat_map, Contains-nil}
use Rattle.markers.specs.Environment.{Texts}
use Rattle.markers.specs.Marker.{Tree}
use Rattle.markers.specs.declared.fault.Cause.{Cause}
use Rattle.pep440.specs.Matching.{matches, names_pre, pins}
use Rattle.pep440.specs.Version.{VersionParts, is_pre}
use Rattle.pep440.specs.declared.specifier.Clause.{Clause}
use Rattle.pep508.specs.Requirement.{RequirementParts, applies, is_active, requirement_of}
use Rattle.problems.specs.Admission.{admits, admits_release, fits, has_final, has_version, is_final, is_said, meets_python, release_at}
use Rattle.problems.specs.Problem.{ProblemParts, active_in, requirements}
use Rattle.problems.specs.Rules.{candidates, counts, nodes_of, rules_of, wants, wants_of}
use Rattle.problems.proofs.Deciding.{found-is}
use Rattle.snapshot.specs.Packages.{Index, releases_of}
use Rattle.snapshot.specs.Release.{Release}
use Rattle.states.proofs.PartFacts.{All-member}
use Rattle.exports.specs.Alike.{AnswersAlike, CanAsk, LineAlike, MarkerAlike, MatchedAlike, ReleaseAlike, WantedAlike, by_dependency, by_line, marker_in}
use Rattle.exports.specs.Laws.{Asking, problem_in}
use Rattle.exports.proofs.AgreeingRules.{Agree, answering}
use Rattle.exports.proofs.EachOf.{each-map}

-- ---- lists of items that answer alike

found-alike : {A B : Type 0} (f g : A → B) (d : B) (p : A → Bool) (xs : List A) → AllByRecursion (λ x. f x ≡ g x) xs → option_map_or f (find p xs) d ≡ option_map_or g (find p xs) d
found-alike f g d p [] h = refl
found-alike f g d p (x ∷ xs) h = elim (cases_Bool (p x)) [
  | inl passes ↦ rw passes h.0
  | inr fails ↦ rw fails (found-alike f g d p xs h.1)
]

any-alike : {A : Type 0} (f g : A → Bool) (xs : List A) → AllByRecursion (λ x. f x ≡ g x) xs → list_any f xs ≡ list_any g xs
any-alike f g [] h = refl
any-alike f g (x ∷ xs) h = λ i. h.0 i || any-alike f g xs h.1 i

filter-alike : {A : Type 0} (f g : A → Bool) (xs : List A) → AllByRecursion (λ x. f x ≡ g x) xs → filter f xs ≡ filter g xs
filter-alike f g [] h = refl
filter-alike f g (x ∷ xs) h = elim (cases_Bool (f x)) [
  | inl passes ↦ (let too : g x ≡ true = sym h.0 ∙ passes in rw (passes, too) (ap (λ ys. x ∷ ys) (filter-alike f g xs h.1)))
  | inr fails ↦ (let too : g x ≡ false = sym h.0 ∙ fails in rw (fails, too) (filter-alike f g xs h.1))
]

-- ---- lines

applies-alike : (environment other : Texts) (marker : Option Tree) → MarkerAlike environment other marker → applies marker environment ≡ applies marker other
applies-alike environment other None h = refl
applies-alike environment other (Some tree) h = h None

line-alike : (environment other : Texts) (read : Result (Option RequirementParts) Cause) → MarkerAlike environment other (marker_in read) → active_in environment read ≡ active_in other read
line-alike environment other (Ok (Some wanted)) h = ap (λ (b : Bool). if b then wanted ∷ [] else []) (applies-alike environment other wanted.marker h)
line-alike environment other (Ok None) h = refl
line-alike environment other (Err cause) h = refl

lines-alike : (environment other : Texts) (lines : List (List ℕ)) → AllByRecursion (LineAlike environment other) lines → requirements environment lines ≡ requirements other lines
lines-alike environment other [] h = refl
lines-alike environment other (line ∷ lines) h = λ i. line-alike environment other (requirement_of line) h.0 i ++ lines-alike environment other lines h.1 i

-- what an active line asks for can be asked for
line-asks : (lines : List (List ℕ)) (index : Index) (environment : Texts) (line : List ℕ) → Contains lines line → (read : Result (Option RequirementParts) Cause) → requirement_of line ≡ read
    → (wanted : RequirementParts) → Contains (active_in environment read) wanted → CanAsk lines index wanted
line-asks lines index environment line there (Ok (Some asked)) e wanted k = elim (cases_Bool (is_active asked environment)) [
  | inl passes ↦ elim (Contains-cons_cases asked [] wanted (subst (λ (b : Bool). Contains (if b then asked ∷ [] else []) wanted) passes k)) [
    | inl same ↦ by_line line wanted there (e ∙ ap (λ (r : RequirementParts). Ok (Some r)) same)
    | inr more ↦ absurd (Contains-nil wanted more)
  ]
  | inr fails ↦ absurd (Contains-nil wanted (subst (λ (b : Bool). Contains (if b then asked ∷ [] else []) wanted) fails k))
]
line-asks lines index environment line there (Ok None) e wanted k = absurd (Contains-nil wanted k)
line-asks lines index environment line there (Err cause) e wanted k = absurd (Contains-nil wanted k)

lines-ask : (lines : List (List ℕ)) (index : Index) (environment : Texts) (wanted : RequirementParts) → Contains (requirements environment lines) wanted → CanAsk lines index wanted
lines-ask lines index environment wanted k =
    let one : (line : List ℕ) × Contains lines line × Contains (active_in environment (requirement_of line)) wanted = Contains-flat_map (λ line. active_in environment (requirement_of line)) lines wanted k in
    line-asks lines index environment one.0 one.1 (requirement_of one.0) refl wanted one.2

-- ---- what is admitted

fits-alike : (environment other : Texts) (wanted : RequirementParts) (release : Release) → MatchedAlike environment other wanted release → fits environment wanted release ≡ fits other wanted release
fits-alike environment other wanted release h = elim (cases_Bool (matches wanted.clauses release.version)) [
  | inl passes ↦ ap (λ b. matches wanted.clauses release.version && b) (h passes).python
  | inr fails ↦ ap (λ b. b && meets_python environment release.requires_python) fails ∙ sym (ap (λ b. b && meets_python other release.requires_python) fails)
]

said-alike : (says : List Clause → Bool) (asking : Asking) (environment other : Texts) (wanted : RequirementParts) → AnswersAlike asking.lines asking.index environment other
    → is_said says (problem_in asking environment) wanted ≡ is_said says (problem_in asking other) wanted
said-alike says asking environment other wanted h =
    ap (λ (active : List RequirementParts). says wanted.clauses || list_any (λ line. bytes_eq line.name wanted.name && says line.clauses) active) (lines-alike environment other asking.lines h.of_lines)

final-alike : (asking : Asking) (environment other : Texts) (wanted : RequirementParts) → AllByRecursion (MatchedAlike environment other wanted) (releases_of wanted.name asking.index.packages)
    → has_final (problem_in asking environment) wanted ≡ has_final (problem_in asking other) wanted
final-alike asking environment other wanted k =
    any-alike (λ release. is_final release && fits environment wanted release) (λ release. is_final release && fits other wanted release) (releases_of wanted.name asking.index.packages)
    (each-map (MatchedAlike environment other wanted) (λ release. (is_final release && fits environment wanted release) ≡ (is_final release && fits other wanted release)) (releases_of wanted.name asking.index.packages)
    (λ release m. ap (λ b. is_final release && b) (fits-alike environment other wanted release m)) k)

release-alike : (asking : Asking) (environment other : Texts) (wanted : RequirementParts) (release : Release) → AnswersAlike asking.lines asking.index environment other
    → AllByRecursion (MatchedAlike environment other wanted) (releases_of wanted.name asking.index.packages) → MatchedAlike environment other wanted release
    → admits_release (problem_in asking environment) wanted release ≡ admits_release (problem_in asking other) wanted release
release-alike asking environment other wanted release h k m =
    λ i. fits-alike environment other wanted release m i
    && ((not (is_pre release.version) || (said-alike names_pre asking environment other wanted h i || not (final-alike asking environment other wanted k i)))
    && (not release.yanked || said-alike pins asking environment other wanted h i))

admits-alike : (asking : Asking) (environment other : Texts) (wanted : RequirementParts) (version : VersionParts) → AnswersAlike asking.lines asking.index environment other → CanAsk asking.lines asking.index wanted
    → admits (problem_in asking environment) wanted version ≡ admits (problem_in asking other) wanted version
admits-alike asking environment other wanted version h can =
    let k : AllByRecursion (MatchedAlike environment other wanted) (releases_of wanted.name asking.index.packages) = h.of_releases wanted can in
    found-alike (admits_release (problem_in asking environment) wanted) (admits_release (problem_in asking other) wanted) false (has_version version) (releases_of wanted.name asking.index.packages)
    (each-map (MatchedAlike environment other wanted) (λ release. admits_release (problem_in asking environment) wanted release ≡ admits_release (problem_in asking other) wanted release) (releases_of wanted.name asking.index.packages)
    (λ release m. release-alike asking environment other wanted release h k m) k)

-- ---- what a release wants that is admitted

-- the release that is found has a version that matches
matched-found : (given : ProblemParts) (wanted : RequirementParts) (release : Release) → admits_release given wanted release ≡ true → matches wanted.clauses release.version ≡ true
matched-found given wanted release is =
    first_so (matches wanted.clauses release.version) _ (first_so (fits given.environment wanted release) _ is)

wants-asked : (asking : Asking) (environment : Texts) (wanted : RequirementParts) (extra : Option (List ℕ)) (version : VersionParts) (found : Option Release) → CanAsk asking.lines asking.index wanted
    → release_at (problem_in asking environment) wanted.name version ≡ found → option_map_or (admits_release (problem_in asking environment) wanted) found false ≡ true
    → (d : RequirementParts) → Contains (option_map_or (wants_of environment extra) found []) d → CanAsk asking.lines asking.index d
wants-asked asking environment wanted extra version None can e is d w = absurd cc
wants-asked asking environment wanted extra version (Some release) can e is d w =
    by_dependency wanted release d can (found-is (has_version version) (releases_of wanted.name asking.index.packages) release e).0
    (matched-found (problem_in asking environment) wanted release is) (Contains-filter (counts environment extra) release.dependencies d w).0

wants-found : (asking : Asking) (environment other : Texts) (wanted : RequirementParts) (extra : Option (List ℕ)) (version : VersionParts) (found : Option Release)
    → AllByRecursion (MatchedAlike environment other wanted) (releases_of wanted.name asking.index.packages)
    → release_at (problem_in asking environment) wanted.name version ≡ found → option_map_or (admits_release (problem_in asking environment) wanted) found false ≡ true
    → option_map_or (wants_of environment extra) found [] ≡ option_map_or (wants_of other extra) found []
wants-found asking environment other wanted extra version None k e is = absurd cc
wants-found asking environment other wanted extra version (Some release) k e is =
    let there : Contains (releases_of wanted.name asking.index.packages) release = (found-is (has_version version) (releases_of wanted.name asking.index.packages) release e).0 in
    let alike : ReleaseAlike environment other release =
    All-member (MatchedAlike environment other wanted) (releases_of wanted.name asking.index.packages) release k there (matched-found (problem_in asking environment) wanted release is) in
    filter-alike (counts environment extra) (counts other extra) release.dependencies
    (each-map (WantedAlike environment other) (λ asked. counts environment extra asked ≡ counts other extra asked) release.dependencies (λ asked m. m extra) alike.dependencies)

-- ---- rules

pub rules-agree : (asking : Asking) (environment other : Texts) → AnswersAlike asking.lines asking.index environment other
    → Agree (rules_of (problem_in asking environment)) (admits (problem_in asking other)) (wants (problem_in asking other)) (CanAsk asking.lines asking.index)
rules-agree asking environment other h = record {
  lines = λ wanted there. lines-ask asking.lines asking.index environment wanted there;
  dependencies = λ wanted node version d can own is w.
      wants-asked asking environment wanted node.extra version (release_at (problem_in asking environment) wanted.name version) can refl is d
      (subst (λ (name : List ℕ). Contains (option_map_or (wants_of environment node.extra) (release_at (problem_in asking environment) name version) []) d) own w);
  same_admits = λ wanted version can. admits-alike asking environment other wanted version h can;
  same_wants = λ wanted node version can own is.
      subst (λ (name : List ℕ). option_map_or (wants_of environment node.extra) (release_at (problem_in asking environment) name version) [] ≡ option_map_or (wants_of other node.extra) (release_at (problem_in asking other) name version) [])
      (sym own)
      (wants-found asking environment other wanted node.extra version (release_at (problem_in asking environment) wanted.name version) (h.of_releases wanted can) refl is);
}

-- the rules of the other environment are these rules with its answers
pub rules-answering : (asking : Asking) (environment other : Texts) → AnswersAlike asking.lines asking.index environment other
    → answering (rules_of (problem_in asking environment)) (admits (problem_in asking other)) (wants (problem_in asking other)) ≡ rules_of (problem_in asking other)
rules-answering asking environment other h = λ i. record {
  lines = lines-alike environment other asking.lines h.of_lines i;
  name = λ wanted. wanted.name;
  nodes = nodes_of;
  on = λ node. node.name;
  admits = admits (problem_in asking other);
  wants = wants (problem_in asking other);
  candidates = candidates (problem_in asking other);
  compare = (rules_of (problem_in asking other)).compare;
}
