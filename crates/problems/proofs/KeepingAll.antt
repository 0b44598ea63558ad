-- Solutions that keep each kept version of a name that they have.
use Rattle.std.proofs.Common.{◌≡◌, ◌↔◌, ◌∙◌, inl, inr, ℕ, Bool, true, false, List, [], ◌∷◌, ◌++◌, Option, Some, None, Contains, find, is_some, option_map, refl, sym, ap, subst}
use Rattle.std.specs.Map.{lookup}
use Rattle.std.specs.Option.{option_to_list}
use Rattle.std.specs.Str.{bytes_eq}
use Rattle.std.proofs.lemmas.Bool.{cases_Bool}
use Rattle.pep440.specs.Version.{VersionParts}
use Rattle.search.specs.Solutions.{IsBest, IsBetter, IsNeededName, IsNext, IsWalk, Needed, Pin, Solution as IsSolution, by_dependency, by_line}
use Rattle.snapshot.specs.Release.{Release}
use Rattle.problems.specs.Admission.{has_version}
use Rattle.problems.specs.Laws.{KeepsAll, alone, keeping, preferred}
use Rattle.problems.specs.Problem.{ProblemParts, releases_on}
use Rattle.problems.specs.Rules.{candidates, kept_version, preferring, rules_of, same_version, versions_of}
use Rattle.problems.specs.declared.node.Node.{Node}
use Rattle.lists.proofs.Members.{Contains-cons_cases, Contains-here, Contains-nil}

-- ---- candidates

one-of : (kept : Option VersionParts) (version : VersionParts) → Contains (option_to_list kept) version → kept ≡ Some version
one-of None version there = absurd (Contains-nil version there)
one-of (Some v) version there = elim (Contains-cons_cases v [] version there) [
  | inl e ↦ ap Some e
  | inr never ↦ absurd (Contains-nil version never)
]

first-of : (kept : Option VersionParts) (versions : List VersionParts) (version : VersionParts) → kept ≡ Some version → Contains (preferring kept versions) version
first-of None versions version e = absurd cc
first-of (Some v) versions version e = let same : v ≡ version = cc in subst (Contains (preferring (Some v) versions)) same (Contains-here v _)

alone-of : (kept : Option VersionParts) (version : VersionParts) → kept ≡ Some version → Contains (option_to_list kept) version
alone-of None version e = absurd cc
alone-of (Some v) version e = let same : v ≡ version = cc in subst (Contains (v ∷ [])) same (Contains-here v [])

-- whether a version is kept for the name
abbrev IsKept : ProblemParts → List ℕ → Bool
IsKept given name = is_some (lookup (bytes_eq name) given.kept)

held-is : (given : ProblemParts) (name : List ℕ) → IsKept given name ≡ true → candidates (alone given) name ≡ option_to_list (kept_version given name)
held-is given name held = rw held refl

free-is : (given : ProblemParts) (name : List ℕ) → IsKept given name ≡ false → candidates (alone given) name ≡ candidates (preferred given) name
free-is given name free = rw free refl

held-candidate : (given : ProblemParts) (name : List ℕ) (version : VersionParts) → IsKept given name ≡ true → Contains (candidates (alone given) name) version → kept_version given name ≡ Some version
held-candidate given name version held there = one-of (kept_version given name) version (subst (λ (vs : List VersionParts). Contains vs version) (held-is given name held) there)

candidate-preferred : (given : ProblemParts) (name : List ℕ) (version : VersionParts) → Contains (candidates (alone given) name) version → Contains (candidates (preferred given) name) version
candidate-preferred given name version there = elim (cases_Bool (IsKept given name)) [
  | inl held ↦ first-of (kept_version given name) (versions_of (releases_on given name)) version (held-candidate given name version held there)
  | inr free ↦ subst (λ (vs : List VersionParts). Contains vs version) (free-is given name free) there
]

candidate-alone : (given : ProblemParts) (name : List ℕ) (version : VersionParts) → (IsKept given name ≡ true → kept_version given name ≡ Some version) → Contains (candidates (preferred given) name) version
    → Contains (candidates (alone given) name) version
candidate-alone given name version keeps there = elim (cases_Bool (IsKept given name)) [
  | inl held ↦ subst (λ (vs : List VersionParts). Contains vs version) (sym (held-is given name held)) (alone-of (kept_version given name) version (keeps held))
  | inr free ↦ subst (λ (vs : List VersionParts). Contains vs version) (sym (free-is given name free)) there
]

-- the version of the release that is found
found-same : (kept version : VersionParts) (releases : List Release) → option_map (λ (release : Release). release.version) (find (has_version kept) releases) ≡ Some version → same_version kept version ≡ true
found-same kept version [] e = absurd cc
found-same kept version (r ∷ rs) e = elim (cases_Bool (has_version kept r)) [
  | inl one ↦ let k : Some r.version ≡ Some version = rw one at e in let is : r.version ≡ version = cc in subst (λ v. same_version kept v ≡ true) is one
  | inr other ↦ found-same kept version rs (rw other at e)
]

pub kept-same : (given : ProblemParts) (name : List ℕ) (kept version : VersionParts) → lookup (bytes_eq name) given.kept ≡ Some kept → kept_version given name ≡ Some version → same_version kept version ≡ true
kept-same given name kept version some e = found-same kept version (releases_on given name) (rw some at e)

-- ---- what is needed doesn't depend on candidates

needed-of : (given : ProblemParts) (kept : List (List ℕ × VersionParts)) (only : Bool) (chosen : List ℕ → Option VersionParts) (node : Node) → Needed (rules_of (keeping given kept only)) chosen node
    → Needed (rules_of given) chosen node
needed-of given kept only chosen _ (by_line wanted node h i) = by_line wanted node h i
needed-of given kept only chosen _ (by_dependency link version wanted node k e w i) = by_dependency link version wanted node (needed-of given kept only chosen link k) e w i

needed-with : (given : ProblemParts) (kept : List (List ℕ × VersionParts)) (only : Bool) (chosen : List ℕ → Option VersionParts) (node : Node) → Needed (rules_of given) chosen node
    → Needed (rules_of (keeping given kept only)) chosen node
needed-with given kept only chosen _ (by_line wanted node h i) = by_line wanted node h i
needed-with given kept only chosen _ (by_dependency link version wanted node k e w i) = by_dependency link version wanted node (needed-with given kept only chosen link k) e w i

pub needs-forget : (given : ProblemParts) (kept : List (List ℕ × VersionParts)) (only : Bool) (chosen : List ℕ → Option VersionParts) (node : Node)
    → Needed (rules_of (keeping given kept only)) chosen node ↔ Needed (rules_of given) chosen node
needs-forget given kept only chosen node = (needed-of given kept only chosen node, needed-with given kept only chosen node)

needed-as : (given : ProblemParts) (one other : Bool) (chosen : List ℕ → Option VersionParts) (node : Node) → Needed (rules_of (keeping given given.kept one)) chosen node
    → Needed (rules_of (keeping given given.kept other)) chosen node
needed-as given one other chosen node needed = needed-with given given.kept other chosen node (needed-of given given.kept one chosen node needed)

name-as : (given : ProblemParts) (one other : Bool) (chosen : List ℕ → Option VersionParts) (name : List ℕ) → IsNeededName (rules_of (keeping given given.kept one)) chosen name
    → IsNeededName (rules_of (keeping given given.kept other)) chosen name
name-as given one other chosen name k = (k.0, needed-as given one other chosen k.0 k.1, k.2)

next-as : (given : ProblemParts) (one other : Bool) (taken : List (Pin (List ℕ) VersionParts)) (name : List ℕ) → IsNext (rules_of (keeping given given.kept one)) taken name
    → IsNext (rules_of (keeping given given.kept other)) taken name
next-as given one other taken name next = record {
  needed = name-as given one other _ name next.needed;
  free = next.free;
  least = λ m needed free. next.least m (name-as given other one _ m needed) free;
}

walk-as : (given : ProblemParts) (one other : Bool) (before pins : List (Pin (List ℕ) VersionParts)) → IsWalk (rules_of (keeping given given.kept one)) before pins
    → IsWalk (rules_of (keeping given given.kept other)) before pins
walk-as given one other before [] walk = walk
walk-as given one other before (p ∷ ps) walk = (next-as given one other before p.name walk.0, walk-as given one other (before ++ p ∷ []) ps walk.1)

-- ---- solutions

pub alone-solution : (given : ProblemParts) (s : List ℕ → Option VersionParts) → IsSolution (rules_of (alone given)) s → IsSolution (rules_of (preferred given)) s × KeepsAll given s
alone-solution given s sol = (
  record {
    released = λ n v e. candidate-preferred given n v (sol.released n v e);
    lines_met = sol.lines_met;
    dependencies_met = λ node v wanted needed. sol.dependencies_met node v wanted (needed-as given false true s node needed);
    each_needed = λ n v e. name-as given true false s n (sol.each_needed n v e);
  },
  λ name version e held. held-candidate given name version held (sol.released name version e),
)

pub solution-alone : (given : ProblemParts) (s : List ℕ → Option VersionParts) → IsSolution (rules_of (preferred given)) s → KeepsAll given s → IsSolution (rules_of (alone given)) s
solution-alone given s sol keeps = record {
  released = λ n v e. candidate-alone given n v (keeps n v e) (sol.released n v e);
  lines_met = sol.lines_met;
  dependencies_met = λ node v wanted needed. sol.dependencies_met node v wanted (needed-as given true false s node needed);
  each_needed = λ n v e. name-as given false true s n (sol.each_needed n v e);
}

-- ---- the best one

better-alone : (given : ProblemParts) (s t : List ℕ → Option VersionParts) → KeepsAll given s → KeepsAll given t → IsBetter (rules_of (preferred given)) s t → IsBetter (rules_of (alone given)) s t
better-alone given s t keeps keeps_too better = record {
  taken = better.taken;
  walk = walk-as given false true [] better.taken better.walk;
  had = better.had;
  had_too = better.had_too;
  name = better.name;
  next = next-as given false true better.taken better.name better.next;
  version = better.version;
  version_too = better.version_too;
  chosen = better.chosen;
  chosen_too = better.chosen_too;
  first = elim (cases_Bool (IsKept given better.name)) [
    | inl held ↦
        let one = keeps better.name better.version better.chosen held in
        let other = keeps_too better.name better.version_too better.chosen_too held in
        let same : better.version ≡ better.version_too = (let k : Some better.version ≡ Some better.version_too = sym one ∙ other in cc) in
        absurd (better.first.4 same)
    | inr free ↦ (better.first.0, better.first.1, free-is given better.name free ∙ better.first.2, better.first.3, better.first.4)
  ];
}

pub best-alone : (given : ProblemParts) (s : List ℕ → Option VersionParts) → IsBest (rules_of (preferred given)) s → KeepsAll given s → IsBest (rules_of (alone given)) s
best-alone given s best keeps = record {
  solution = solution-alone given s best.solution keeps;
  best = λ t sol. let both = alone-solution given t sol in elim (best.best t both.0) [
    | inl same ↦ inl same
    | inr better ↦ inr (better-alone given s t keeps both.1 better)
  ];
}
