-- A walk that takes at each name the first candidate that nothing required refuses, and never goes back; and when it has met all that is required.
use Rattle.std.specs.Prelude.{List, [], ◌∷◌, ◌++◌, Option, Some, ◌≡◌, ◌⊎◌, false}
use Rattle.std.specs.List.{Contains}
use Rattle.search.specs.Rules.{Rules}
use Rattle.search.specs.Solutions.{Needed, IsMet, IsNext, Pin, version_pinned}

-- r is required by a line, or counts at a needed node
abbrev pub IsRequired : {N X V R : Type 0} → Rules N X V R → (N → Option V) → R → Type 0
IsRequired {N} {X} {V} rules chosen r = Contains rules.lines r ⊎ ((node : X) × (v : V) × Needed rules chosen node × (chosen (rules.on node) ≡ Some v) × Contains (rules.wants node v) r)

-- something that is required on the name doesn't admit the version
abbrev pub IsRefused : {N X V R : Type 0} → Rules N X V R → (N → Option V) → N → V → Type 0
IsRefused {N} {X} {V} {R} rules chosen n w = (r : R) × IsRequired rules chosen r × (rules.name r ≡ n) × (rules.admits r w ≡ false)

-- the version stands once among the name's candidates, and each candidate in front of it is refused
pub record IsFirst {N X V R : Type 0} (rules : Rules N X V R) (refused : V → Type 0) (n : N) (v : V) : Type 0 where
  pub front : List V
  pub back : List V
  pub listed : rules.candidates n ≡ front ++ v ∷ back
  pub once : Contains back v → ⊥
  pub before : (w : V) → Contains front w → refused w

-- behind the pins before, each further pin is on the next name, with the first candidate that isn't refused
abbrev pub IsFirstWalk : {N X V R : Type 0} → Rules N X V R → List (Pin N V) → List (Pin N V) → Type 0
IsFirstWalk rules before [] = Unit {0}
IsFirstWalk rules before (p ∷ ps) =
    (IsNext rules before p.name × IsFirst rules (IsRefused rules (version_pinned rules.compare before) p.name) p.name p.version)
    × IsFirstWalk rules (before ++ p ∷ []) ps

-- all that is required is met
pub record IsComplete {N X V R : Type 0} (rules : Rules N X V R) (chosen : N → Option V) : Type 0 where
  pub lines_met : (r : R) → Contains rules.lines r → IsMet rules chosen r
  pub dependencies_met : (node : X) (v : V) (r : R) → Needed rules chosen node → chosen (rules.on node) ≡ Some v → Contains (rules.wants node v) r → IsMet rules chosen r
