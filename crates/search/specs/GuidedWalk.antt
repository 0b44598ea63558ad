-- A walk that passes over a candidate only where no solution has it behind what was walked before.
use Rattle.std.specs.Prelude.{List, [], ◌∷◌, ◌++◌, Option, Some, ◌≡◌}
use Rattle.search.specs.FirstWalk.{IsFirst}
use Rattle.search.specs.Rules.{Rules}
use Rattle.search.specs.Solutions.{Has, IsNext, Pin, Solution}

-- no solution that has the pins has the version at the name
abbrev pub IsExcluded : {N X V R : Type 0} → Rules N X V R → List (Pin N V) → N → V → Type 0
IsExcluded {N} {X} {V} rules taken n w = (s : N → Option V) → Solution rules s → Has rules s taken → s n ≡ Some w → ⊥

-- behind the pins before, each further pin is on the next name, with the first candidate that isn't excluded
abbrev pub IsGuidedWalk : {N X V R : Type 0} → Rules N X V R → List (Pin N V) → List (Pin N V) → Type 0
IsGuidedWalk rules before [] = Unit {0}
IsGuidedWalk rules before (p ∷ ps) =
    (IsNext rules before p.name × IsFirst rules (IsExcluded rules before p.name) p.name p.version)
    × IsGuidedWalk rules (before ++ p ∷ []) ps
