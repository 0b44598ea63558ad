-- Conflicts, and how one follows from others. Nothing here speaks of a search.
use Rattle.std.specs.Prelude.{List, [], ◌∷◌, ◌++◌, Option, Some, Bool, true, false, ◌≡◌, ◌⊎◌}
use Rattle.std.specs.List.{Contains}
use Rattle.search.specs.declared.conflict.NodeChoice.{NodeChoice}
use Rattle.search.specs.Rules.{Rules}
use Rattle.search.specs.Solutions.{Needed, Solution}

-- Which versions are one, as `1.0` and `1.0.0` are: rules don't tell them apart.
pub record IsVersionEquality {N X V R : Type 0} (rules : Rules N X V R) (same : V → V → Bool) : Type 0 where
  pub back : (v w : V) → same v w ≡ true → same w v ≡ true
  pub onward : (u v w : V) → same u v ≡ true → same v w ≡ true → same u w ≡ true
  pub admits : (r : R) (v w : V) → same v w ≡ true → rules.admits r v ≡ rules.admits r w
  pub wants : (node : X) (v w : V) → same v w ≡ true → rules.wants node v ≡ rules.wants node w

-- two choices are one: their nodes are the same, and their versions are one
pub record IsSameChoice {X V : Type 0} (same : V → V → Bool) (c d : NodeChoice X V) : Type 0 where
  pub nodes : c.node ≡ d.node
  pub versions : same c.version d.version ≡ true

-- the choice lies in the solution: its node is needed there, and its version is the solution's
pub record LiesIn {N X V R : Type 0} (rules : Rules N X V R) (same : V → V → Bool) (s : N → Option V) (c : NodeChoice X V) : Type 0 where
  pub needed : Needed rules s c.node
  pub version : V
  pub chosen : s (rules.on c.node) ≡ Some version
  pub versions : same c.version version ≡ true

-- all choices of the conflict lie in the solution
abbrev pub ConflictLiesIn : {N X V R : Type 0} → Rules N X V R → (V → V → Bool) → (N → Option V) → List (NodeChoice X V) → Type 0
ConflictLiesIn {N} {X} {V} rules same s conflict = (c : NodeChoice X V) → Contains conflict c → LiesIn rules same s c

-- the conflict lies in no solution
abbrev pub LiesInNone : {N X V R : Type 0} → Rules N X V R → (V → V → Bool) → List (NodeChoice X V) → Type 0
LiesInNone {N} {X} {V} rules same conflict = (s : N → Option V) → Solution rules s → ConflictLiesIn rules same s conflict → ⊥

-- a line on its name doesn't admit one of the choices
pub record LineRefuses {N X V R : Type 0} (rules : Rules N X V R) (conflict : List (NodeChoice X V)) : Type 0 where
  pub choice : NodeChoice X V
  pub there : Contains conflict choice
  pub line : R
  pub active : Contains rules.lines line
  pub named : rules.name line ≡ rules.on choice.node
  pub refused : rules.admits line choice.version ≡ false

-- something that the one choice wants at its node, on the name of the other, doesn't admit the other's version
pub record ChoicesClash {N X V R : Type 0} (rules : Rules N X V R) (conflict : List (NodeChoice X V)) : Type 0 where
  pub one : NodeChoice X V
  pub other : NodeChoice X V
  pub there : Contains conflict one
  pub there_too : Contains conflict other
  pub wanted : R
  pub counts : Contains (rules.wants one.node one.version) wanted
  pub named : rules.name wanted ≡ rules.on other.node
  pub refused : rules.admits wanted other.version ≡ false

-- two versions for one name
pub record VersionsDiffer {N X V R : Type 0} (rules : Rules N X V R) (same : V → V → Bool) (conflict : List (NodeChoice X V)) : Type 0 where
  pub one : NodeChoice X V
  pub other : NodeChoice X V
  pub there : Contains conflict one
  pub there_too : Contains conflict other
  pub named : rules.on one.node ≡ rules.on other.node
  pub differ : same one.version other.version ≡ false

-- a line needs the node, or a choice of the conflict does
abbrev pub NeedsNode : {N X V R : Type 0} → Rules N X V R → List (NodeChoice X V) → X → Type 0
NeedsNode {N} {X} {V} {R} rules conflict node =
    ((line : R) × Contains rules.lines line × Contains (rules.nodes line) node)
    ⊎ ((c : NodeChoice X V) × (wanted : R) × Contains conflict c × Contains (rules.wants c.node c.version) wanted × Contains (rules.nodes wanted) node)

-- the conflict with one choice more contains an earlier one
abbrev pub Completes : {X V : Type 0} → (V → V → Bool) → List (List (NodeChoice X V)) → List (NodeChoice X V) → NodeChoice X V → Type 0
Completes {X} {V} same earlier conflict choice =
    (old : List (NodeChoice X V)) × Contains earlier old
    × ((member : NodeChoice X V) → Contains old member → ((c : NodeChoice X V) × Contains conflict c × IsSameChoice same member c) ⊎ IsSameChoice same member choice)

-- a node is needed, and with each candidate of its name the conflict contains an earlier one
pub record NoneLeft {N X V R : Type 0} (rules : Rules N X V R) (same : V → V → Bool) (earlier : List (List (NodeChoice X V))) (conflict : List (NodeChoice X V)) : Type 0 where
  pub node : X
  pub needs : NeedsNode rules conflict node
  pub each : (v : V) → Contains (rules.candidates (rules.on node)) v → Completes same earlier conflict (record { node = node; version = v })

-- the conflict follows from earlier ones
abbrev pub Follows : {N X V R : Type 0} → Rules N X V R → (V → V → Bool) → List (List (NodeChoice X V)) → List (NodeChoice X V) → Type 0
Follows rules same earlier conflict = LineRefuses rules conflict ⊎ (ChoicesClash rules conflict ⊎ (VersionsDiffer rules same conflict ⊎ NoneLeft rules same earlier conflict))

-- each conflict follows from those before it
abbrev pub EachFollows : {N X V R : Type 0} → Rules N X V R → (V → V → Bool) → List (List (NodeChoice X V)) → List (List (NodeChoice X V)) → Type 0
EachFollows rules same earlier [] = Unit {0}
EachFollows rules same earlier (c ∷ cs) = Follows rules same earlier c × EachFollows rules same (earlier ++ c ∷ []) cs

-- each conflict follows from those before it, and the last one is empty
pub record IsRefutation {N X V R : Type 0} (rules : Rules N X V R) (same : V → V → Bool) (conflicts : List (List (NodeChoice X V))) : Type 0 where
  pub each : EachFollows rules same [] conflicts
  pub front : List (List (NodeChoice X V))
  pub ends : conflicts ≡ front ++ [] ∷ []
