-- The only value of which something holds.
-- Tied to `Leads` by the contract of `Change::apply`; need not be read.
use Rattle.std.specs.Prelude.{◌≡◌, Option, Some, None}

-- it holds of this value and of no other one, or of none
abbrev pub IsTheOnly : {T : Type 0} → (T → Type 0) → Option T → Type 0
IsTheOnly {T} holds None = (other : T) → holds other → ⊥
IsTheOnly {T} holds (Some value) = holds value × ((other : T) → holds other → other ≡ value)
