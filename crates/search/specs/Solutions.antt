-- Solutions, and the best of them. Nothing is searched here: finished solutions are compared.
use Rattle.std.specs.Prelude.{List, [], ◌∷◌, ◌++◌, Option, Some, None, IsTrue, ◌≡◌, ◌≢◌, ◌⊎◌, if◌then◌else◌}
use Rattle.std.specs.List.{Contains}
use Rattle.std.specs.Ordering.{is_eq}
use Rattle.std.specs.declared.cmp.Ordering.{Ordering}
use Rattle.std.specs.declared.cmp.Ordering.TheVariants.{Greater}
use Rattle.search.specs.Rules.{Rules}

-- The nodes that a finite chain reaches from the lines: each further link is something that the release chosen for the link's name wants at the link.
pub data Needed {N X V R : Type 0} (rules : Rules N X V R) (chosen : N → Option V) : X → Type 0 where
  by_line : (r : R) (node : X) → Contains rules.lines r → Contains (rules.nodes r) node → Needed rules chosen node
  by_dependency : (link : X) (version : V) (r : R) (node : X) → Needed rules chosen link → chosen (rules.on link) ≡ Some version → Contains (rules.wants link version) r → Contains (rules.nodes r) node → Needed rules chosen node

-- a name with a needed node
abbrev pub IsNeededName : {N X V R : Type 0} → Rules N X V R → (N → Option V) → N → Type 0
IsNeededName {N} {X} rules chosen n = (node : X) × Needed rules chosen node × (rules.on node ≡ n)

-- what r requires is chosen
abbrev pub IsMet : {N X V R : Type 0} → Rules N X V R → (N → Option V) → R → Type 0
IsMet {N} {X} {V} rules chosen r = (v : V) × (chosen (rules.name r) ≡ Some v) × IsTrue (rules.admits r v)

-- each version is a candidate, each line and each dependency that counts at a needed node is met, and each name is needed
pub record Solution {N X V R : Type 0} (rules : Rules N X V R) (s : N → Option V) : Type 0 where
  pub released : (n : N) (v : V) → s n ≡ Some v → Contains (rules.candidates n) v
  pub lines_met : (r : R) → Contains rules.lines r → IsMet rules s r
  pub dependencies_met : (node : X) (v : V) (r : R) → Needed rules s node → s (rules.on node) ≡ Some v → Contains (rules.wants node v) r → IsMet rules s r
  pub each_needed : (n : N) (v : V) → s n ≡ Some v → IsNeededName rules s n

-- a version for a name
pub record Pin (N V : Type 0) : Type 0 where
  pub name : N
  pub version : V

-- the map that pins make: at a name, the first pin on it
abbrev pub version_pinned : {N V : Type 0} → (N → N → Ordering) → List (Pin N V) → N → Option V
version_pinned compare [] n = None
version_pinned compare (p ∷ ps) n = if is_eq (compare p.name n) then Some p.version else version_pinned compare ps n

-- n is the least name that is needed and not yet taken
pub record IsNext {N X V R : Type 0} (rules : Rules N X V R) (taken : List (Pin N V)) (n : N) : Type 0 where
  pub needed : IsNeededName rules (version_pinned rules.compare taken) n
  pub free : version_pinned rules.compare taken n ≡ None
  pub least : (m : N) → IsNeededName rules (version_pinned rules.compare taken) m → version_pinned rules.compare taken m ≡ None → rules.compare n m ≢ Greater

-- behind the pins before, each further pin is on the next name
abbrev pub IsWalk : {N X V R : Type 0} → Rules N X V R → List (Pin N V) → List (Pin N V) → Type 0
IsWalk rules before [] = Unit {0}
IsWalk rules before (p ∷ ps) = IsNext rules before p.name × IsWalk rules (before ++ p ∷ []) ps

-- s has what is taken
abbrev pub Has : {N X V R : Type 0} → Rules N X V R → (N → Option V) → List (Pin N V) → Type 0
Has {N} {X} {V} rules s taken = (n : N) (v : V) → version_pinned rules.compare taken n ≡ Some v → s n ≡ Some v

-- v stands in the list, with no w before it
abbrev pub ComesFirst : {V : Type 0} → List V → V → V → Type 0
ComesFirst {V} vs v w = (before : List V) × (after : List V) × (vs ≡ before ++ v ∷ after) × (Contains before w → ⊥) × (v ≢ w)

-- Both are walked from the empty map. At the first name where they differ, s has the earlier candidate.
pub record IsBetter {N X V R : Type 0} (rules : Rules N X V R) (s t : N → Option V) : Type 0 where
  pub taken : List (Pin N V)
  pub walk : IsWalk rules [] taken
  pub had : Has rules s taken
  pub had_too : Has rules t taken
  pub name : N
  pub next : IsNext rules taken name
  pub version : V
  pub version_too : V
  pub chosen : s name ≡ Some version
  pub chosen_too : t name ≡ Some version_too
  pub first : ComesFirst (rules.candidates name) version version_too

-- s is a solution, and better than each other one
pub record IsBest {N X V R : Type 0} (rules : Rules N X V R) (s : N → Option V) : Type 0 where
  pub solution : Solution rules s
  pub best : (t : N → Option V) → Solution rules t → ((n : N) → t n ≡ s n) ⊎ IsBetter rules s t

-- no map is a solution
abbrev pub HasNoSolution : {N X V R : Type 0} → Rules N X V R → Type 0
HasNoSolution {N} {X} {V} rules = (s : N → Option V) → Solution rules s → ⊥
