-- Conflicts of sets of versions, and how one follows from others. Nothing here speaks of a search.
use Rattle.std.specs.Prelude.{List, [], ◌∷◌, ◌++◌, Option, Some, Bool, true, false, ◌≡◌, ◌⊎◌}
use Rattle.std.specs.List.{Contains}
use Rattle.search.specs.declared.term.Term.{Term}
use Rattle.search.specs.Rules.{Rules}
use Rattle.search.specs.Solutions.{Needed, Solution}

-- one of the versions is this one
abbrev pub HasVersion : {V : Type 0} → (V → V → Bool) → List V → V → Type 0
HasVersion {V} same versions v = (w : V) × Contains versions w × (same w v ≡ true)

-- the term lies in the solution: its node is needed there, and the solution's version is one of its own
pub record TermLiesIn {N X V R : Type 0} (rules : Rules N X V R) (same : V → V → Bool) (s : N → Option V) (t : Term X V) : Type 0 where
  pub needed : Needed rules s t.node
  pub version : V
  pub chosen : s (rules.on t.node) ≡ Some version
  pub has : HasVersion same t.versions version

-- all terms of the conflict lie in the solution
abbrev pub SetLiesIn : {N X V R : Type 0} → Rules N X V R → (V → V → Bool) → (N → Option V) → List (Term X V) → Type 0
SetLiesIn {N} {X} {V} rules same s conflict = (t : Term X V) → Contains conflict t → TermLiesIn rules same s t

-- the conflict lies in no solution
abbrev pub SetLiesInNone : {N X V R : Type 0} → Rules N X V R → (V → V → Bool) → List (Term X V) → Type 0
SetLiesInNone {N} {X} {V} rules same conflict = (s : N → Option V) → Solution rules s → SetLiesIn rules same s conflict → ⊥

-- a line on its name admits none of a term's versions
pub record LineRefusesSet {N X V R : Type 0} (rules : Rules N X V R) (conflict : List (Term X V)) : Type 0 where
  pub term : Term X V
  pub there : Contains conflict term
  pub line : R
  pub active : Contains rules.lines line
  pub named : rules.name line ≡ rules.on term.node
  pub refused : (v : V) → Contains term.versions v → rules.admits line v ≡ false

-- something that v wants at its node, on the name of the other node, doesn't admit w
abbrev pub Refuses : {N X V R : Type 0} → Rules N X V R → X → V → X → V → Type 0
Refuses {N} {X} {V} {R} rules node v other w = (wanted : R) × Contains (rules.wants node v) wanted × (rules.name wanted ≡ rules.on other) × (rules.admits wanted w ≡ false)

-- the versions can't stand together at these nodes: one of them refuses the other, or they are two versions of one name
abbrev pub PairClashes : {N X V R : Type 0} → Rules N X V R → (V → V → Bool) → X → V → X → V → Type 0
PairClashes rules same node v other w = Refuses rules node v other w ⊎ (Refuses rules other w node v ⊎ ((rules.on node ≡ rules.on other) × (same v w ≡ false)))

-- each version of one term clashes with each version of another, or of the same
pub record SetsClash {N X V R : Type 0} (rules : Rules N X V R) (same : V → V → Bool) (conflict : List (Term X V)) : Type 0 where
  pub one : Term X V
  pub other : Term X V
  pub there : Contains conflict one
  pub there_too : Contains conflict other
  pub clash : (v w : V) → Contains one.versions v → Contains other.versions w → PairClashes rules same one.node v other.node w

-- the conflict has a term on the node, all of whose versions are among the term's
abbrev pub BindsWithin : {X V : Type 0} → (V → V → Bool) → List (Term X V) → Term X V → Type 0
BindsWithin {X} {V} same conflict t = (c : Term X V) × Contains conflict c × (c.node ≡ t.node) × ((v : V) → Contains c.versions v → HasVersion same t.versions v)

-- the conflict with this version alone at the node contains an earlier one
abbrev pub CompletesSet : {X V : Type 0} → (V → V → Bool) → List (List (Term X V)) → List (Term X V) → X → V → Type 0
CompletesSet {X} {V} same earlier conflict node v =
    (old : List (Term X V)) × Contains earlier old
    × ((t : Term X V) → Contains old t → BindsWithin same conflict t ⊎ ((t.node ≡ node) × HasVersion same t.versions v))

-- with each version of one of its terms the conflict contains an earlier one
pub record EachVersion {X V : Type 0} (same : V → V → Bool) (earlier : List (List (Term X V))) (conflict : List (Term X V)) : Type 0 where
  pub term : Term X V
  pub there : Contains conflict term
  pub each : (v : V) → Contains term.versions v → CompletesSet same earlier conflict term.node v

-- a line needs the node, or each version of one of the conflict's terms does
abbrev pub SetNeedsNode : {N X V R : Type 0} → Rules N X V R → List (Term X V) → X → Type 0
SetNeedsNode {N} {X} {V} {R} rules conflict node =
    ((line : R) × Contains rules.lines line × Contains (rules.nodes line) node)
    ⊎ ((t : Term X V) × Contains conflict t × ((v : V) → Contains t.versions v → (wanted : R) × Contains (rules.wants t.node v) wanted × Contains (rules.nodes wanted) node))

-- a node is needed, and with each candidate of its name the conflict contains an earlier one
pub record NoCandidateLeft {N X V R : Type 0} (rules : Rules N X V R) (same : V → V → Bool) (earlier : List (List (Term X V))) (conflict : List (Term X V)) : Type 0 where
  pub node : X
  pub needs : SetNeedsNode rules conflict node
  pub each : (v : V) → Contains (rules.candidates (rules.on node)) v → CompletesSet same earlier conflict node v

-- the conflict follows from earlier ones
abbrev pub SetFollows : {N X V R : Type 0} → Rules N X V R → (V → V → Bool) → List (List (Term X V)) → List (Term X V) → Type 0
SetFollows rules same earlier conflict = LineRefusesSet rules conflict ⊎ (SetsClash rules same conflict ⊎ (EachVersion same earlier conflict ⊎ NoCandidateLeft rules same earlier conflict))

-- each conflict follows from those before it
abbrev pub EachSetFollows : {N X V R : Type 0} → Rules N X V R → (V → V → Bool) → List (List (Term X V)) → List (List (Term X V)) → Type 0
EachSetFollows rules same earlier [] = Unit {0}
EachSetFollows rules same earlier (c ∷ cs) = SetFollows rules same earlier c × EachSetFollows rules same (earlier ++ c ∷ []) cs

-- each conflict follows from those before it, and the last one is empty
pub record IsSetRefutation {N X V R : Type 0} (rules : Rules N X V R) (same : V → V → Bool) (conflicts : List (List (Term X V))) : Type 0 where
  pub each : EachSetFollows rules same [] conflicts
  pub front : List (List (Term X V))
  pub ends : conflicts ≡ front ++ [] ∷ []
