-- The first candidate that some requirements admit.
use Rattle.std.proofs.Common.{◌≡◌, inl, inr, ◌∙◌, ℕ, Bool, true, false, not, List, [], ◌∷◌, ◌++◌, Option, Some, None, IfSome, Less, Contains, filter, find, refl, ap, subst}
use Rattle.std.proofs.lemmas.Bool.{cases_Bool}
use Rattle.std.proofs.lemmas.List.{map-append}
use Rattle.std.proofs.lemmas.List.Elements.{filter-append}
use Rattle.std.specs.BTreeMap.{is_at}
use Rattle.std.specs.Cmp.Lexicographic.{slice_cmp}
use Rattle.std.specs.List.{AllByRecursion, list_all}
use Rattle.std.specs.List.Sorted.{IsStrictlySortedBy}
use Rattle.std.specs.Map.{lookup}
use Rattle.std.specs.Option.{option_map, option_to_list}
use Rattle.std.specs.Ordering.{is_eq, nat_cmp}
use Rattle.lists.proofs.Members.{Contains-cons_cases, Contains-filter, Contains-here, Contains-map, Contains-nil, Contains-there}
use Rattle.pep440.specs.Order.{version_cmp}
use Rattle.pep440.specs.Version.{VersionParts}
use Rattle.pep508.specs.Requirement.{RequirementParts}
use Rattle.search.specs.Conflicts.{IsVersionEquality}
use Rattle.search.specs.FirstWalk.{IsFirst}
use Rattle.snapshot.specs.Release.{Release}
use Rattle.snapshot.specs.Releases.{newer_cmp}
use Rattle.problems.specs.Admission.{admits, release_at}
use Rattle.problems.specs.Problem.{ProblemParts, releases_on}
use Rattle.problems.specs.Rules.{is_held, kept_version, preferring, rules_of, same_version, versions_of}
use Rattle.resolve.specs.Tied.Choosing.{IsNewest, IsRefusedBy}
use Rattle.resolve.proofs.Falling.{same-itself}
use Rattle.resolve.proofs.Preferring.{free-candidates, held-candidates, lookup-get}

-- where not all admit, one doesn't
pub refused-by : (given : ProblemParts) (asks : List RequirementParts) (version : VersionParts) → list_all (λ wanted. admits given wanted version) asks ≡ false → IsRefusedBy given asks version
refused-by given [] version h = absurd cc
refused-by given (wanted ∷ asks) version h = elim (cases_Bool (admits given wanted version)) [
  | inl one ↦ let k : IsRefusedBy given asks version = refused-by given asks version (rw one at h) in (k.0, Contains-there wanted asks k.0 k.1, k.2)
  | inr none ↦ (wanted, Contains-here wanted asks, none)
]

-- versions that are one are admitted alike
admit-alike : (given : ProblemParts) → IsVersionEquality (rules_of given) same_version → (asks : List RequirementParts) (v w : VersionParts) → same_version v w ≡ true → list_all (λ wanted. admits given wanted v) asks ≡ list_all (λ wanted. admits given wanted w) asks
admit-alike given equal asks v w same = ap (λ test. list_all test asks) (λ i (wanted : RequirementParts). equal.admits wanted v w same i)

met-by : {A : Type 0} (P : A → Type 0) (xs : List A) (x : A) → AllByRecursion P xs → Contains xs x → P x
met-by P [] x all i = absurd (Contains-nil x i)
met-by P (y ∷ xs) x all i = elim (Contains-cons_cases y xs x i) [
  | inl e ↦ subst P e all.0
  | inr later ↦ met-by P xs x all.1 later
]

-- the first release that passes, between those that don't and those that are older
record IsFound (test : Release → Bool) (rs : List Release) (r : Release) : Type 0 where
  pub front : List Release
  pub back : List Release
  pub listed : rs ≡ front ++ r ∷ back
  pub passes : test r ≡ true
  pub fails : (x : Release) → Contains front x → test x ≡ false
  pub older : (x : Release) → Contains back x → newer_cmp r x ≡ Less

found-first : (test : Release → Bool) (rs : List Release) (r : Release) → IsStrictlySortedBy newer_cmp rs → find test rs ≡ Some r → IsFound test rs r
unfolding IsStrictlySortedBy
found-first test [] r fall e = absurd cc
found-first test (x ∷ rs) r fall e = elim (cases_Bool (test x)) [
  | inl passes ↦
      let same : x ≡ r = let k : Some x ≡ Some r = rw passes at e in cc in
      record {
        front = [];
        back = rs;
        listed = ap (λ y. y ∷ rs) same;
        passes = subst (λ y. test y ≡ true) same passes;
        fails = λ y i. absurd (Contains-nil y i);
        older = λ y i. subst (λ z. newer_cmp z y ≡ Less) same (met-by (λ z. newer_cmp x z ≡ Less) rs y fall.0 i);
      }
  | inr fails ↦
      let k : IsFound test rs r = found-first test rs r fall.1 (rw fails at e) in
      record {
        front = x ∷ k.front;
        back = k.back;
        listed = ap (λ ys. x ∷ ys) k.listed;
        passes = k.passes;
        fails = λ y i. elim (Contains-cons_cases x k.front y i) [
          | inl is ↦ subst (λ z. test z ≡ false) is fails
          | inr later ↦ k.fails y later
        ];
        older = k.older;
      }
]

-- an older release has another version
older-other : (r x : Release) → newer_cmp r x ≡ Less → x.version ≡ r.version → ⊥
older-other r x older same =
    let k : version_cmp r.version r.version ≡ Less = subst (λ v. version_cmp v r.version ≡ Less) same older in
    let f : is_eq (version_cmp r.version r.version) ≡ true = same-itself r.version in
    let g : is_eq (version_cmp r.version r.version) ≡ false = rw k refl in
    absurd cc

pub newest-found : (given : ProblemParts) (name : List ℕ) (asks : List RequirementParts) (r : Release) → IsStrictlySortedBy newer_cmp (releases_on given name)
    → find (λ release. list_all (λ wanted. admits given wanted release.version) asks) (releases_on given name) ≡ Some r → IsNewest given name asks r.version
newest-found given name asks r fall e =
    let test : Release → Bool = λ release. list_all (λ wanted. admits given wanted release.version) asks in
    let f : IsFound test (releases_on given name) r = found-first test (releases_on given name) r fall e in
    record {
      front = versions_of f.front;
      back = versions_of f.back;
      listed = ap versions_of f.listed ∙ map-append (λ (release : Release). release.version) f.front (r ∷ f.back);
      once = λ i. let k = Contains-map (λ (release : Release). release.version) f.back r.version i in older-other r k.0 (f.older k.0 k.1) k.2;
      before = λ w i. let k = Contains-map (λ (release : Release). release.version) f.front w i in refused-by given asks w (subst (λ v. list_all (λ wanted. admits given wanted v) asks ≡ false) k.2 (f.fails k.0 k.1));
      admitted = f.passes;
    }

-- no version is kept: the candidates are the releases
pub first-newest : (given : ProblemParts) (name : List ℕ) (asks : List RequirementParts) (version : VersionParts) → kept_version given name ≡ None → is_held given name ≡ false → IsNewest given name asks version
    → IsFirst (rules_of given) (IsRefusedBy given asks) name version
first-newest given name asks version none free n = record {
  front = n.front;
  back = n.back;
  listed = free-candidates given name free ∙ ap (λ kept. preferring kept (versions_of (releases_on given name))) none ∙ n.listed;
  once = n.once;
  before = n.before;
}

-- the kept version is admitted
pub first-kept : (given : ProblemParts) (name : List ℕ) (asks : List RequirementParts) (version : VersionParts) → kept_version given name ≡ Some version → IsFirst (rules_of given) (IsRefusedBy given asks) name version
first-kept given name asks version some = elim (cases_Bool (is_held given name)) [
  | inl held ↦ record {
    front = [];
    back = [];
    listed = held-candidates given name held ∙ ap option_to_list some;
    once = Contains-nil version;
    before = λ w i. absurd (Contains-nil w i);
  }
  | inr free ↦
      let other : VersionParts → Bool = λ v. not (is_eq (version_cmp version v)) in
      record {
        front = [];
        back = filter other (versions_of (releases_on given name));
        listed = free-candidates given name free ∙ ap (λ kept. preferring kept (versions_of (releases_on given name))) some;
        once = λ i.
            let k : other version ≡ true = (Contains-filter other (versions_of (releases_on given name)) version i).1 in
            let f : is_eq (version_cmp version version) ≡ true = same-itself version in
            let g : not (is_eq (version_cmp version version)) ≡ false = rw f refl in
            absurd cc;
        before = λ w i. absurd (Contains-nil w i);
      }
]

-- the kept version is refused
pub first-behind : (given : ProblemParts) → IsVersionEquality (rules_of given) same_version → (name : List ℕ) (asks : List RequirementParts) (kept version : VersionParts) → kept_version given name ≡ Some kept → list_all (λ wanted. admits given wanted kept) asks ≡ false → is_held given name ≡ false → IsNewest given name asks version
    → IsFirst (rules_of given) (IsRefusedBy given asks) name version
first-behind given equal name asks kept version some refused free n =
    let other : VersionParts → Bool = λ v. not (is_eq (version_cmp kept v)) in
    let apart : other version ≡ true = elim (cases_Bool (is_eq (version_cmp kept version))) [
      | inl one ↦ absurd (let k : list_all (λ wanted. admits given wanted kept) asks ≡ true = admit-alike given equal asks kept version one ∙ n.admitted in cc)
      | inr two ↦ rw two refl
    ] in
    let here : filter other (version ∷ n.back) ≡ version ∷ filter other n.back = rw apart refl in
    record {
      front = kept ∷ filter other n.front;
      back = filter other n.back;
      listed = free-candidates given name free ∙ ap (λ k. preferring k (versions_of (releases_on given name))) some ∙ ap (λ vs. kept ∷ filter other vs) n.listed
          ∙ ap (λ vs. kept ∷ vs) (filter-append other n.front (version ∷ n.back) ∙ ap (λ vs. filter other n.front ++ vs) here);
      once = λ i. n.once (Contains-filter other n.back version i).0;
      before = λ w i. elim (Contains-cons_cases kept (filter other n.front) w i) [
        | inl e ↦ subst (IsRefusedBy given asks) e (refused-by given asks kept refused)
        | inr later ↦ n.before w (Contains-filter other n.front w later).0
      ];
    }

-- what is said of an option's value, where more is said of it
pub some-more : {A : Type 0} (P Q : A → Type 0) (o : Option A) → ((a : A) → P a → Q a) → IfSome o P → IfSome o Q
some-more P Q None h p = p
some-more P Q (Some a) h p = h a p

-- the version of the release that has the kept one
pub kept-at : (given : ProblemParts) (name : List ℕ) (version : VersionParts) → lookup (is_at (slice_cmp nat_cmp name)) given.kept ≡ Some version → option_map (λ r. r.version) (release_at given name version) ≡ kept_version given name
kept-at given name version some = rw (lookup-get name given.kept, some) refl
