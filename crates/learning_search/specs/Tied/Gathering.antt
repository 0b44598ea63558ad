-- Lists of choices that are read as sets.
-- Tied to `Follows` by the contract of `learned_or_refuted`; need not be read.
use Rattle.std.specs.Prelude.{ℕ, List, ◌≡◌, ◌⊎◌}
use Rattle.std.specs.List.{Contains}
use Rattle.search.specs.declared.conflict.NodeChoice.{NodeChoice}

abbrev pub decision : ℕ → ℕ → NodeChoice ℕ ℕ
decision node place = record { node = node; version = place }

-- new is old and what is gathered without what is left out, and no more
pub record Gathers (old new gathered left_out : List (NodeChoice ℕ ℕ)) : Type 0 where
  pub kept : (c : NodeChoice ℕ ℕ) → Contains old c → Contains new c
  pub added : (c : NodeChoice ℕ ℕ) → Contains gathered c → Contains new c ⊎ Contains left_out c
  pub only : (c : NodeChoice ℕ ℕ) → Contains new c → Contains old c ⊎ (Contains gathered c × (Contains left_out c → ⊥))

-- each choice of the conflict is one of these, or this one
abbrev pub IsWithin : List (NodeChoice ℕ ℕ) → List (NodeChoice ℕ ℕ) → NodeChoice ℕ ℕ → Type 0
IsWithin conflict decisions last = (c : NodeChoice ℕ ℕ) → Contains conflict c → Contains decisions c ⊎ (last ≡ c)

-- these choices and this one contain a recorded conflict
abbrev pub IsCompleted : List (List (NodeChoice ℕ ℕ)) → List (NodeChoice ℕ ℕ) → NodeChoice ℕ ℕ → Type 0
IsCompleted conflicts decisions last = (old : List (NodeChoice ℕ ℕ)) × Contains conflicts old × IsWithin old decisions last

-- the choices that a map from nodes to places holds
abbrev pub choice_at : ℕ × ℕ → NodeChoice ℕ ℕ
choice_at e = decision e.0 e.1
