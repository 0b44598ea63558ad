-- What nodes want of their own is enough: the same nodes are needed, and the same is required.
use Rattle.std.proofs.Common.{◌≡◌, ◌∙◌, ◌&&◌, ◌⊎◌, inl, inr, ℕ, true, false, List, [], ◌∷◌, ◌++◌, Option, Some, None, Contains, filter, map, refl, sym, subst}
use Rattle.std.proofs.lemmas.Bool.{cases_Bool}
use Rattle.std.specs.Option.{option_map_or}
use Rattle.pep440.specs.Version.{VersionParts}
use Rattle.pep508.specs.Requirement.{RequirementParts}
use Rattle.markers.specs.Environment.{Texts}
use Rattle.markers.specs.Marker.{Tree}
use Rattle.markers.specs.MarkerExtras.{OtherExtrasAreAsNone, extras_in, is_among}
use Rattle.search.specs.FirstWalk.{IsComplete, IsFirst, IsFirstWalk, IsRefused, IsRequired}
use Rattle.search.specs.Rules.{IsLawful}
use Rattle.search.specs.Solutions.{IsNext, IsNeededName, Needed, Pin, by_dependency, by_line, version_pinned}
use Rattle.problems.specs.Admission.{dependencies_at}
use Rattle.problems.specs.Problem.{ProblemParts}
use Rattle.problems.specs.Rules.{applies_with, bare, counts, nodes_of, rules_of, wants, with_extra}
use Rattle.problems.specs.Tied.ByExtra.{names_extra}
use Rattle.problems.specs.Tied.OwnNeeds.{own_rules, own_wants, own_wants_of}
use Rattle.problems.specs.declared.node.Node.{Node}
use Rattle.problems.proofs.Equals.{lawful-rules}
use Rattle.problems.proofs.Grouping.{wants-counted}
use Rattle.lists.proofs.Members.{Contains-filter, Contains-filter_of, Contains-here}

-- ---- one node

both-true : (a b : _) → (a && b) ≡ true → (a ≡ true) × (b ≡ true)
both-true true b e = (refl, e)
both-true false b e = absurd cc

-- a marker that doesn't name an extra holds with it where it holds with none
as-none : OtherExtrasAreAsNone → (environment : Texts) (extra : List ℕ) (marker : Option Tree) → option_map_or (λ t. is_among extra (extras_in t)) marker false ≡ false
    → applies_with environment None marker ≡ applies_with environment (Some extra) marker
as-none law environment extra None other = refl
as-none law environment extra (Some t) other = sym (law t environment extra other)

-- and it counts there
pub own-counts : (environment : Texts) (extra : Option (List ℕ)) (dependencies : List RequirementParts) (wanted : RequirementParts) → Contains (own_wants_of environment extra dependencies) wanted
    → Contains (filter (counts environment extra) dependencies) wanted
own-counts environment None dependencies wanted there = there
own-counts environment (Some extra) dependencies wanted there =
    let k = Contains-filter (λ w. names_extra extra w && counts environment (Some extra) w) dependencies wanted there in
    let both = both-true (names_extra extra wanted) (counts environment (Some extra) wanted) k.1 in
    Contains-filter_of (counts environment (Some extra)) dependencies wanted k.0 both.1

-- what a node wants of its own is wanted there
pub own-wanted : (given : ProblemParts) (node : Node) (version : VersionParts) (wanted : RequirementParts) → Contains (own_wants given node version) wanted → Contains (wants given node version) wanted
own-wanted given node version wanted there =
    subst (λ (listed : List RequirementParts). Contains listed wanted) (wants-counted given node version) (own-counts given.environment node.extra (dependencies_at given node.name version) wanted there)

counted-own : OtherExtrasAreAsNone → (environment : Texts) (extra : Option (List ℕ)) (dependencies : List RequirementParts) (wanted : RequirementParts) → Contains dependencies wanted → counts environment extra wanted ≡ true
    → Contains (own_wants_of environment extra dependencies) wanted ⊎ Contains (own_wants_of environment None dependencies) wanted
counted-own law environment None dependencies wanted there counted = inl (Contains-filter_of (counts environment None) dependencies wanted there counted)
counted-own law environment (Some extra) dependencies wanted there counted = elim (cases_Bool (names_extra extra wanted)) [
  | inl names ↦ inl (Contains-filter_of (λ w. names_extra extra w && counts environment (Some extra) w) dependencies wanted there (rw (names, counted) refl))
  | inr other ↦ inr (Contains-filter_of (counts environment None) dependencies wanted there (as-none law environment extra wanted.marker other ∙ counted))
]

-- what is wanted at a node it wants of its own, or its name does with no extra
pub wanted-own : OtherExtrasAreAsNone → (given : ProblemParts) (node : Node) (version : VersionParts) (wanted : RequirementParts) → Contains (wants given node version) wanted
    → Contains (own_wants given node version) wanted ⊎ Contains (own_wants given (bare node.name) version) wanted
wanted-own law given node version wanted there =
    let counted = subst (λ (listed : List RequirementParts). Contains listed wanted) (sym (wants-counted given node version)) there in
    let k = Contains-filter (counts given.environment node.extra) (dependencies_at given node.name version) wanted counted in
    counted-own law given.environment node.extra (dependencies_at given node.name version) wanted k.0 k.1

-- ---- what is needed

bare-of : (given : ProblemParts) (wanted : RequirementParts) (node : Node) → Contains (nodes_of wanted) node → Contains (nodes_of wanted) (bare node.name)
bare-of given wanted node there =
    let name : node.name ≡ wanted.name = (lawful-rules given).own wanted node there in
    subst (λ (n : List ℕ). Contains (nodes_of wanted) (bare n)) (sym name) (Contains-here (bare wanted.name) (map (with_extra wanted.name) wanted.extras))

-- where a node is needed, so is its name with no extra
pub bare-needed : (given : ProblemParts) (chosen : List ℕ → Option VersionParts) (node : Node) → Needed (rules_of given) chosen node → Needed (rules_of given) chosen (bare node.name)
bare-needed given chosen _ (by_line wanted node h i) = by_line wanted (bare node.name) h (bare-of given wanted node i)
bare-needed given chosen _ (by_dependency link version wanted node k e w i) = by_dependency link version wanted (bare node.name) k e w (bare-of given wanted node i)

bare-own : (given : ProblemParts) (chosen : List ℕ → Option VersionParts) (node : Node) → Needed (own_rules given) chosen node → Needed (own_rules given) chosen (bare node.name)
bare-own given chosen _ (by_line wanted node h i) = by_line wanted (bare node.name) h (bare-of given wanted node i)
bare-own given chosen _ (by_dependency link version wanted node k e w i) = by_dependency link version wanted (bare node.name) k e w (bare-of given wanted node i)

pub needed-own : OtherExtrasAreAsNone → (given : ProblemParts) (chosen : List ℕ → Option VersionParts) (node : Node) → Needed (rules_of given) chosen node → Needed (own_rules given) chosen node
needed-own law given chosen _ (by_line wanted node h i) = by_line wanted node h i
needed-own law given chosen _ (by_dependency link version wanted node k e w i) =
    let own : Needed (own_rules given) chosen link = needed-own law given chosen link k in
    elim (wanted-own law given link version wanted w) [
      | inl mine ↦ by_dependency link version wanted node own e mine i
      | inr names ↦ by_dependency (bare link.name) version wanted node (bare-own given chosen link own) e names i
    ]

pub own-needed : (given : ProblemParts) (chosen : List ℕ → Option VersionParts) (node : Node) → Needed (own_rules given) chosen node → Needed (rules_of given) chosen node
own-needed given chosen _ (by_line wanted node h i) = by_line wanted node h i
own-needed given chosen _ (by_dependency link version wanted node k e w i) =
    by_dependency link version wanted node (own-needed given chosen link k) e (own-wanted given link version wanted w) i

own-name : (given : ProblemParts) (chosen : List ℕ → Option VersionParts) (name : List ℕ) → IsNeededName (own_rules given) chosen name → IsNeededName (rules_of given) chosen name
own-name given chosen name k = (k.0, own-needed given chosen k.0 k.1, k.2)

name-own : OtherExtrasAreAsNone → (given : ProblemParts) (chosen : List ℕ → Option VersionParts) (name : List ℕ) → IsNeededName (rules_of given) chosen name → IsNeededName (own_rules given) chosen name
name-own law given chosen name k = (k.0, needed-own law given chosen k.0 k.1, k.2)

-- ---- first walks

own-required : (given : ProblemParts) (chosen : List ℕ → Option VersionParts) (wanted : RequirementParts) → IsRequired (own_rules given) chosen wanted → IsRequired (rules_of given) chosen wanted
own-required given chosen wanted (inl line) = inl line
own-required given chosen wanted (inr d) = inr (d.0, d.1, own-needed given chosen d.0 d.2, d.3, own-wanted given d.0 d.1 wanted d.4)

own-refused : (given : ProblemParts) (chosen : List ℕ → Option VersionParts) (name : List ℕ) (version : VersionParts) → IsRefused (own_rules given) chosen name version → IsRefused (rules_of given) chosen name version
own-refused given chosen name version k = (k.0, own-required given chosen k.0 k.1, k.2, k.3)

own-next : OtherExtrasAreAsNone → (given : ProblemParts) (taken : List (Pin (List ℕ) VersionParts)) (name : List ℕ) → IsNext (own_rules given) taken name → IsNext (rules_of given) taken name
own-next law given taken name next = record {
  needed = own-name given _ name next.needed;
  free = next.free;
  least = λ m needed free. next.least m (name-own law given _ m needed) free;
}

own-first : (given : ProblemParts) (chosen : List ℕ → Option VersionParts) (name : List ℕ) (version : VersionParts) → IsFirst (own_rules given) (IsRefused (own_rules given) chosen name) name version
    → IsFirst (rules_of given) (IsRefused (rules_of given) chosen name) name version
own-first given chosen name version first = record {
  front = first.front;
  back = first.back;
  listed = first.listed;
  once = first.once;
  before = λ w there. own-refused given chosen name w (first.before w there);
}

-- the first candidate that something refuses all before is that of both
pub first-own : (given : ProblemParts) (refused : VersionParts → Type 0) (name : List ℕ) (version : VersionParts) → IsFirst (rules_of given) refused name version → IsFirst (own_rules given) refused name version
first-own given refused name version first = record {
  front = first.front;
  back = first.back;
  listed = first.listed;
  once = first.once;
  before = first.before;
}

pub own-walk : OtherExtrasAreAsNone → (given : ProblemParts) (before pins : List (Pin (List ℕ) VersionParts)) → IsFirstWalk (own_rules given) before pins → IsFirstWalk (rules_of given) before pins
own-walk law given before [] walk = walk
own-walk law given before (p ∷ ps) walk = (
  (own-next law given before p.name walk.0.0, own-first given (version_pinned (own_rules given).compare before) p.name p.version walk.0.1),
  own-walk law given (before ++ p ∷ []) ps walk.1,
)

pub own-complete : OtherExtrasAreAsNone → (given : ProblemParts) (chosen : List ℕ → Option VersionParts) → IsComplete (own_rules given) chosen → IsComplete (rules_of given) chosen
own-complete law given chosen complete = record {
  lines_met = complete.lines_met;
  dependencies_met = λ node version wanted needed e w. elim (wanted-own law given node version wanted w) [
    | inl mine ↦ complete.dependencies_met node version wanted (needed-own law given chosen node needed) e mine
    | inr names ↦ complete.dependencies_met (bare node.name) version wanted (bare-own given chosen node (needed-own law given chosen node needed)) e names
  ];
}

-- ---- the rules

pub lawful-own : (given : ProblemParts) → IsLawful (own_rules given)
lawful-own given = record {
  order = (lawful-rules given).order;
  some = (lawful-rules given).some;
  own = (lawful-rules given).own;
}
