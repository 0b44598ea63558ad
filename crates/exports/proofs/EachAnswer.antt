-- What is decided of two environments' answers, and each question that counts.
use Rattle.std.proofs.Common.{◌≡◌, ◌≢◌, ◌∙◌, ◌&&◌, ◌||◌, not, inl, inr, ℕ, Bool, true, false, List, [], ◌∷◌, Contains, map, Option, Some, None, Result, Ok, Err, refl, ap, subst, sym}
use Rattle.std.proofs.lemmas.Bool.{cases_Bool}
use Rattle.std.specs.Cmp.{first_so}
use Rattle.std.specs.List.{AllByRecursion, list_all}
use Rattle.lists.proofs.Members.{Contains-cons_cases, Contains-here, Contains-nil, Contains-there}
use Rattle.markers.specs.Environment.{Texts}
use Rattle.markers.specs.Marker.{Tree}
use Rattle.markers.specs.MarkerAtoms.{Relation, relation_holds}
use Rattle.markers.specs.MarkerRelations.{RelationAlike, RelationsDecide, relations_in}
use Rattle.markers.specs.declared.fault.Cause.{Cause}
use Rattle.pep440.specs.Matching.{matches}
use Rattle.pep508.specs.Requirement.{RequirementParts, requirement_of}
use Rattle.problems.specs.Admission.{meets_python}
use Rattle.snapshot.specs.Packages.{Index, releases_of}
use Rattle.snapshot.specs.Release.{Release}
use Rattle.states.proofs.PartFacts.{All-of}
use Rattle.exports.specs.Alike.{AnswersAlike, CanAsk, LineAlike, MarkerAlike, MatchedAlike, WantedAlike, by_dependency, by_line, marker_in}
use Rattle.exports.specs.Questions.{AnswerEachAlike, AnswerOneApart, holds_there, is_met, of_marker, of_release}
use Rattle.exports.specs.Tied.Answers.{are_matched_alike, is_line_alike, is_marker_alike, is_matched_alike, is_python_alike, is_relation_alike, is_release_alike, is_same_answer, is_wanted_alike}
use Rattle.exports.specs.Tied.Reach.{AreAsked}
use Rattle.exports.proofs.AskedRequirements.{asked-covers}
use Rattle.exports.proofs.SaidConditions.{both-second}

-- ---- lists

pub all-so : {A : Type 0} (p : A → Bool) (xs : List A) → AllByRecursion (λ x. p x ≡ true) xs → list_all p xs ≡ true
all-so p [] h = refl
all-so p (x ∷ xs) h = ap (λ (b : Bool). b && list_all p xs) h.0 ∙ all-so p xs h.1

pub all-mapped : {A B : Type 0} (p : B → Bool) (f : A → B) (xs : List A) → list_all p (map f xs) ≡ list_all (λ x. p (f x)) xs
all-mapped p f [] = refl
all-mapped p f (x ∷ xs) = ap (λ (b : Bool). p (f x) && b) (all-mapped p f xs)

pub all-at : {A : Type 0} (p : A → Bool) (xs : List A) (x : A) → list_all p xs ≡ true → Contains xs x → p x ≡ true
all-at p [] x h there = absurd (Contains-nil x there)
all-at p (y ∷ ys) x h there = elim (Contains-cons_cases y ys x there) [
  | inl same ↦ ap p (sym same) ∙ first_so (p y) (list_all p ys) h
  | inr more ↦ all-at p ys x (both-second (p y) (list_all p ys) h) more
]

pub one-fails : {A : Type 0} (p : A → Bool) (xs : List A) → list_all p xs ≡ false → (x : A) × Contains xs x × (p x ≡ false)
one-fails p [] h = absurd cc
one-fails p (x ∷ xs) h = elim (cases_Bool (p x)) [
  | inl so ↦ (let k = one-fails p xs (subst (λ (b : Bool). (b && list_all p xs) ≡ false) so h) in (k.0, Contains-there x xs k.0 k.1, k.2))
  | inr fails ↦ (x, Contains-here x xs, fails)
]

-- a list in which one fails
pub all-broken : {A : Type 0} (p : A → Bool) (xs : List A) (x : A) → Contains xs x → p x ≡ false → list_all p xs ≡ false
all-broken p xs x there fails = elim (cases_Bool (list_all p xs)) [
  | inl all ↦ (let so : p x ≡ true = all-at p xs x all there in absurd cc)
  | inr not_all ↦ not_all
]

-- ---- two answers

same-is : (one other : Bool) → is_same_answer one other ≡ true → one ≡ other
same-is true true h = refl
same-is true false h = absurd cc
same-is false true h = absurd cc
same-is false false h = refl

pub not-true : (b : Bool) → not b ≡ true → b ≡ false
not-true true h = absurd cc
not-true false h = refl

pub not-false : (b : Bool) → not b ≡ false → b ≡ true
not-false true h = refl
not-false false h = absurd cc

pub is-same : (one other : Bool) → one ≡ other → is_same_answer one other ≡ true
is-same true other e = sym e
is-same false other e = ap not (sym e)

differ-is : (one other : Bool) → is_same_answer one other ≡ false → one ≢ other
differ-is one other h e = let so : is_same_answer one other ≡ true = is-same one other e in cc

-- ---- what conditions settle

mapped-so : {A : Type 0} (environment other : Texts) (f : A → Relation) (found : List A) → AllByRecursion (λ x. RelationAlike environment other (f x)) found → list_all (is_relation_alike environment other) (map f found) ≡ true
mapped-so environment other f [] h = refl
mapped-so environment other f (x ∷ xs) h =
    ap (λ (b : Bool). b && list_all (is_relation_alike environment other) (map f xs)) (is-same (relation_holds (f x) environment) (relation_holds (f x) other) h.0) ∙ mapped-so environment other f xs h.1

pub marker-settled : {A : Type 0} (environment other : Texts) (tree : Tree) (f : A → Relation) (found : List A) → map f found ≡ relations_in tree
    → AllByRecursion (λ x. RelationAlike environment other (f x)) found → is_marker_alike environment other (Some tree) ≡ true
marker-settled environment other tree f found e h = ap (list_all (is_relation_alike environment other)) (sym e) ∙ mapped-so environment other f found h

pub release-settled : (environment other : Texts) (release : Release) → meets_python environment release.requires_python ≡ meets_python other release.requires_python
    → AllByRecursion (λ wanted. is_wanted_alike environment other wanted ≡ true) release.dependencies → is_release_alike environment other release ≡ true
release-settled environment other release python h =
    ap (λ (b : Bool). b && list_all (is_wanted_alike environment other) release.dependencies) (is-same (meets_python environment release.requires_python) (meets_python other release.requires_python) python)
    ∙ all-so (is_wanted_alike environment other) release.dependencies h

pub unmatched-alike : (one other : Texts) (wanted : RequirementParts) (release : Release) → matches wanted.clauses release.version ≡ false → is_matched_alike one other wanted release ≡ true
unmatched-alike one other wanted release m = ap (λ (b : Bool). not b || is_release_alike one other release) m

pub either-so : (a b : Bool) → b ≡ true → (a || b) ≡ true
either-so true b h = refl
either-so false b h = h

-- ---- one question

relation-answer : (one other : Texts) (marker : Option Tree) (tree : Tree) (r : Relation) → is_marker_alike one other marker ≡ true → marker ≡ Some tree → Contains (relations_in tree) r → relation_holds r one ≡ relation_holds r other
relation-answer one other marker tree r h e there =
    same-is (relation_holds r one) (relation_holds r other) (all-at (is_relation_alike one other) (relations_in tree) r (ap (is_marker_alike one other) (sym e) ∙ h) there)

-- a relation of a marker that has two answers
pub record MarkerApart (one other : Texts) (marker : Option Tree) : Type 0 where
  pub tree : Tree
  pub is : marker ≡ Some tree
  pub relation : Relation
  pub there : Contains (relations_in tree) relation
  pub differ : relation_holds relation one ≢ relation_holds relation other

marker-apart : (one other : Texts) (marker : Option Tree) → is_marker_alike one other marker ≡ false → MarkerApart one other marker
marker-apart one other None h = absurd cc
marker-apart one other (Some tree) h =
    let k = one-fails (is_relation_alike one other) (relations_in tree) h in
    record { tree = tree; is = refl; relation = k.0; there = k.1; differ = differ-is (relation_holds k.0 one) (relation_holds k.0 other) k.2 }

-- ---- all questions that count

-- what is decided of lines, and of requirements that stand for all that they can ask for
pub record AreDecided (lines : List (List ℕ)) (index : Index) (asked : List RequirementParts) (one other : Texts) : Type 0 where
  pub of_lines : list_all (is_line_alike one other) lines ≡ true
  pub of_asked : list_all (are_matched_alike one other index) asked ≡ true

-- a release that a requirement matches is decided
release-of : (lines : List (List ℕ)) (index : Index) (asked : List RequirementParts) (one other : Texts) → AreAsked lines index asked → AreDecided lines index asked one other
    → (wanted : RequirementParts) (release : Release) → CanAsk lines index wanted → Contains (releases_of wanted.name index.packages) release → matches wanted.clauses release.version ≡ true → is_release_alike one other release ≡ true
release-of lines index asked one other k d wanted release can there m =
    let c = asked-covers lines index asked k wanted can in
    let moved : Contains (releases_of c.0.name index.packages) release = subst (λ (name : List ℕ). Contains (releases_of name index.packages) release) (sym c.2.named) there in
    let decided : is_matched_alike one other c.0 release ≡ true =
    all-at (is_matched_alike one other c.0) (releases_of c.0.name index.packages) release (all-at (are_matched_alike one other index) asked c.0 d.of_asked c.1) moved in
    subst (λ (b : Bool). (not b || is_release_alike one other release) ≡ true) (c.2.matched release.version m) decided

-- so is the marker of all that can be asked for
marker-of : (lines : List (List ℕ)) (index : Index) (asked : List RequirementParts) (one other : Texts) → AreAsked lines index asked → AreDecided lines index asked one other
    → (wanted : RequirementParts) → CanAsk lines index wanted → is_wanted_alike one other wanted ≡ true
marker-of lines index asked one other k d _ (by_line line wanted there e) =
    ap (λ (read : Result (Option RequirementParts) Cause). is_marker_alike one other (marker_in read)) (sym e) ∙ all-at (is_line_alike one other) lines line d.of_lines there
marker-of lines index asked one other k d _ (by_dependency above release wanted can there m among) =
    let decided = release-of lines index asked one other k d above release can there m in
    all-at (is_wanted_alike one other) release.dependencies wanted (both-second (is_python_alike one other release.requires_python) (list_all (is_wanted_alike one other) release.dependencies) decided) among

pub each-alike : (lines : List (List ℕ)) (index : Index) (asked : List RequirementParts) (one other : Texts) → AreAsked lines index asked → AreDecided lines index asked one other → AnswerEachAlike lines index one other
each-alike lines index asked one other k d _ (of_marker wanted marker r can e there) =
    relation-answer one other wanted.marker marker r (marker-of lines index asked one other k d wanted can) e there
each-alike lines index asked one other k d _ (of_release wanted release can there m) =
    same-is (meets_python one release.requires_python) (meets_python other release.requires_python)
    (first_so (is_python_alike one other release.requires_python) (list_all (is_wanted_alike one other) release.dependencies) (release-of lines index asked one other k d wanted release can there m))

-- ---- one that has two answers

wanted-apart : (lines : List (List ℕ)) (index : Index) (one other : Texts) (wanted : RequirementParts) → CanAsk lines index wanted → MarkerApart one other wanted.marker → AnswerOneApart lines index one other
wanted-apart lines index one other wanted can m = record {
  question = holds_there m.relation;
  counts = of_marker wanted m.tree m.relation can m.is m.there;
  differ = m.differ;
}

line-apart : (lines : List (List ℕ)) (index : Index) (one other : Texts) (line : List ℕ) → Contains lines line → (read : Result (Option RequirementParts) Cause) → requirement_of line ≡ read → is_marker_alike one other (marker_in read) ≡ false
    → AnswerOneApart lines index one other
line-apart lines index one other line there (Ok (Some wanted)) e h = wanted-apart lines index one other wanted (by_line line wanted there e) (marker-apart one other wanted.marker h)
line-apart lines index one other line there (Ok None) e h = absurd cc
line-apart lines index one other line there (Err cause) e h = absurd cc

pub lines-apart : (lines : List (List ℕ)) (index : Index) (one other : Texts) → list_all (is_line_alike one other) lines ≡ false → AnswerOneApart lines index one other
lines-apart lines index one other h =
    let k = one-fails (is_line_alike one other) lines h in
    line-apart lines index one other k.0 k.1 (requirement_of k.0) refl k.2

or-fails : (a b : Bool) → (not a || b) ≡ false → (a ≡ true) × (b ≡ false)
or-fails true b h = (refl, h)
or-fails false b h = absurd cc

release-apart : (lines : List (List ℕ)) (index : Index) (one other : Texts) (above : RequirementParts) (release : Release) → CanAsk lines index above → Contains (releases_of above.name index.packages) release → is_matched_alike one other above release ≡ false
    → AnswerOneApart lines index one other
release-apart lines index one other above release can there h =
    let k = or-fails (matches above.clauses release.version) (is_release_alike one other release) h in
    elim (cases_Bool (is_python_alike one other release.requires_python)) [
      | inl python ↦
          (let below : list_all (is_wanted_alike one other) release.dependencies ≡ false = subst (λ (b : Bool). (b && list_all (is_wanted_alike one other) release.dependencies) ≡ false) python k.1 in
          let j = one-fails (is_wanted_alike one other) release.dependencies below in
          wanted-apart lines index one other j.0 (by_dependency above release j.0 can there k.0 j.1) (marker-apart one other j.0.marker j.2))
      | inr python ↦ record {
        question = is_met release.requires_python;
        counts = of_release above release can there k.0;
        differ = differ-is (meets_python one release.requires_python) (meets_python other release.requires_python) python;
      }
    ]

pub asked-apart : (lines : List (List ℕ)) (index : Index) (asked : List RequirementParts) (one other : Texts) → AreAsked lines index asked → list_all (are_matched_alike one other index) asked ≡ false → AnswerOneApart lines index one other
asked-apart lines index asked one other k h =
    let above = one-fails (are_matched_alike one other index) asked h in
    let release = one-fails (is_matched_alike one other above.0) (releases_of above.0.name index.packages) above.2 in
    release-apart lines index one other above.0 release.0 (k.counted above.0 above.1) release.1 release.2

-- ---- who answers each question alike answers each marker alike

relations-alike : (lines : List (List ℕ)) (index : Index) (one other : Texts) → AnswerEachAlike lines index one other → (wanted : RequirementParts) (tree : Tree) → CanAsk lines index wanted → wanted.marker ≡ Some tree
    → AllByRecursion (RelationAlike one other) (relations_in tree)
relations-alike lines index one other each wanted tree can e = All-of (RelationAlike one other) (relations_in tree) (λ r there. each (holds_there r) (of_marker wanted tree r can e there))

marker-alike : (decide : RelationsDecide) (lines : List (List ℕ)) (index : Index) (one other : Texts) → AnswerEachAlike lines index one other → (wanted : RequirementParts) → CanAsk lines index wanted
    → (marker : Option Tree) → wanted.marker ≡ marker → MarkerAlike one other marker
marker-alike decide lines index one other each wanted can None e extra = refl
marker-alike decide lines index one other each wanted can (Some tree) e extra = decide tree one other extra (relations-alike lines index one other each wanted tree can e)

line-alike : (decide : RelationsDecide) (lines : List (List ℕ)) (index : Index) (one other : Texts) → AnswerEachAlike lines index one other → (line : List ℕ) → Contains lines line
    → (read : Result (Option RequirementParts) Cause) → requirement_of line ≡ read → MarkerAlike one other (marker_in read)
line-alike decide lines index one other each line there (Ok (Some wanted)) e = marker-alike decide lines index one other each wanted (by_line line wanted there e) wanted.marker refl
line-alike decide lines index one other each line there (Ok None) e = λ extra. refl
line-alike decide lines index one other each line there (Err cause) e = λ extra. refl

pub answers-alike : (decide : RelationsDecide) (lines : List (List ℕ)) (index : Index) (one other : Texts) → AnswerEachAlike lines index one other → AnswersAlike lines index one other
answers-alike decide lines index one other each = record {
  of_lines = All-of (LineAlike one other) lines (λ line there. line-alike decide lines index one other each line there (requirement_of line) refl);
  of_releases = λ wanted can. All-of (MatchedAlike one other wanted) (releases_of wanted.name index.packages) (λ release there m. record {
    python = each (is_met release.requires_python) (of_release wanted release can there m);
    dependencies = All-of (WantedAlike one other) release.dependencies (λ dependency among.
        marker-alike decide lines index one other each dependency (by_dependency wanted release dependency can there m among) dependency.marker refl);
  });
}
