-- What a backtracking search keeps true of its choices.
-- Tied to `IsBest` by the contracts of the searches; need not be read.
use Rattle.std.specs.Prelude.{ℕ, List, [], ◌∷◌, ◌++◌, Option, Some, None, ◌≡◌, ◌<◌, ◌≤◌, Bool, true, false, not, take, length}
use Rattle.std.specs.List.{Contains, slice_index_or}
use Rattle.search.specs.declared.parts.Frame.{Frame}
use Rattle.search.specs.FirstWalk.{IsRequired}
use Rattle.search.specs.Rules.{Rules}
use Rattle.search.specs.Solutions.{Needed, Solution, IsNext, Has, Pin}

-- no solution has what is taken
abbrev pub IsRefuted : {N X V R : Type 0} → Rules N X V R → List (Pin N V) → Type 0
IsRefuted {N} {X} {V} rules taken = (t : N → Option V) → Solution rules t → Has rules t taken → ⊥

abbrev pub pin_at : Frame → Pin ℕ ℕ
pin_at f = record { name = f.name; version = f.place }

abbrev pub pins_of : List Frame → List (Pin ℕ ℕ)
pins_of [] = []
pins_of (f ∷ fs) = pin_at f ∷ pins_of fs

-- behind the pins, no solution has one of the first so many candidates of the name
abbrev pub Refutes : Rules ℕ ℕ ℕ ℕ → List (Pin ℕ ℕ) → ℕ → ℕ → Type 0
Refutes rules taken n count = (t : ℕ → Option ℕ) → Solution rules t → Has rules t taken → (w : ℕ) → Contains (take count (rules.candidates n)) w → t n ≡ Some w → ⊥

-- f is on the next name behind the pins, and has the candidate of its turn. Behind those pins, no solution has an earlier one.
pub record IsFrame (rules : Rules ℕ ℕ ℕ ℕ) (before : List (Pin ℕ ℕ)) (f : Frame) : Type 0 where
  pub next : IsNext rules before f.name
  pub turn : f.turn < length (rules.candidates f.name)
  pub place : slice_index_or (rules.candidates f.name) f.turn f.place ≡ f.place
  pub refuted : Refutes rules before f.name f.turn

abbrev pub IsSearch : Rules ℕ ℕ ℕ ℕ → List (Pin ℕ ℕ) → List Frame → Type 0
IsSearch rules before [] = Unit {0}
IsSearch rules before (f ∷ fs) = IsFrame rules before f × IsSearch rules (before ++ pin_at f ∷ []) fs

-- what is taken meets a requirement, as far as its name is taken
abbrev pub Fits : Rules ℕ ℕ ℕ ℕ → (ℕ → Option ℕ) → ℕ → Type 0
Fits rules chosen r = (w : ℕ) → chosen (rules.name r) ≡ Some w → rules.admits r w ≡ true

pub record AllFit (rules : Rules ℕ ℕ ℕ ℕ) (chosen : ℕ → Option ℕ) : Type 0 where
  pub lines : (r : ℕ) → Contains rules.lines r → Fits rules chosen r
  pub dependencies : (node v r : ℕ) → Needed rules chosen node → chosen (rules.on node) ≡ Some v → Contains (rules.wants node v) r → Fits rules chosen r

-- the nodes that are needed, and no others
pub record AreNeeded (rules : Rules ℕ ℕ ℕ ℕ) (chosen : ℕ → Option ℕ) (nodes : List ℕ) : Type 0 where
  pub sound : (node : ℕ) → Contains nodes node → Needed rules chosen node
  pub whole : (node : ℕ) → Needed rules chosen node → Contains nodes node

-- what is required, and nothing else
pub record AreRequired (rules : Rules ℕ ℕ ℕ ℕ) (chosen : ℕ → Option ℕ) (required : List ℕ) : Type 0 where
  pub sound : (r : ℕ) → Contains required r → IsRequired rules chosen r
  pub whole : (r : ℕ) → IsRequired rules chosen r → Contains required r

-- each of the nodes has a name that is taken
abbrev pub NoneFree : Rules ℕ ℕ ℕ ℕ → (ℕ → Option ℕ) → List ℕ → Type 0
NoneFree rules chosen nodes = (node : ℕ) → Contains nodes node → chosen (rules.on node) ≡ None → ⊥

-- the least name of the nodes that is not taken
pub record IsLeastFree (rules : Rules ℕ ℕ ℕ ℕ) (chosen : ℕ → Option ℕ) (nodes : List ℕ) (n : ℕ) : Type 0 where
  pub node : ℕ
  pub there : Contains nodes node
  pub named : rules.on node ≡ n
  pub free : chosen n ≡ None
  pub least : (other : ℕ) → Contains nodes other → chosen (rules.on other) ≡ None → n ≤ rules.on other

-- whether a requirement doesn't admit the release that its name has
abbrev pub clash_at : Rules ℕ ℕ ℕ ℕ → ℕ → Option ℕ → Bool
clash_at rules r None = false
clash_at rules r (Some v) = not (rules.admits r v)

abbrev pub clash_in : Rules ℕ ℕ ℕ ℕ → (ℕ → Option ℕ) → ℕ → Bool
clash_in rules chosen r = clash_at rules r (chosen (rules.name r))

-- what is taken, as a list with a place or none for each name
abbrev pub taken_at : List (Option ℕ) → ℕ → Option ℕ
taken_at taken n = slice_index_or taken n None
