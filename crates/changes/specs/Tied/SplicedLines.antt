-- Lines that splices lead to, as they are put together.
-- Tied to `After` by the contract of `Change::apply`; need not be read.
use Rattle.std.specs.Prelude.{◌≡◌, ℕ, ◌≤◌, true, List, drop, length, take, is_ok}
use Rattle.std.specs.List.{flat_map}
use Rattle.pep508.specs.Requirement.{requirement_of}
use Rattle.changes.specs.Changes.{Splices}
use Rattle.changes.specs.declared.change.parts.Splice.{Splice}

-- the old lines of a splice stand in their place, which isn't in front of this one
pub record StandsAt (lines : List (List ℕ)) (from : ℕ) (splice : Splice) : Type 0 where
  pub behind : from ≤ splice.place
  pub within : splice.place ≤ length lines
  pub old : take (length splice.old) (drop splice.place lines) ≡ splice.old

-- a line that isn't refused
abbrev pub Reads : List ℕ → Type 0
Reads line = is_ok (requirement_of line) ≡ true

-- splices lead from these lines to some
abbrev pub LeadOn : List Splice → List (List ℕ) → Type 0
LeadOn splices old = (new : List (List ℕ)) × Splices 0 splices old new

-- they lead to none
abbrev pub LeadToNone : List Splice → List (List ℕ) → Type 0
LeadToNone splices old = (new : List (List ℕ)) → Splices 0 splices old new → ⊥

-- the lines that give way to splices, and those that they put in
abbrev pub gone_by : List Splice → List (List ℕ)
gone_by splices = flat_map (λ s. s.old) splices

abbrev pub put_by : List Splice → List (List ℕ)
put_by splices = flat_map (λ s. s.new) splices

-- lines as far as they are exchanged, from the last splice on: so many splices are left, with the lines that they put in
pub record IsExchangedFrom (splices : List Splice) (lines : List (List ℕ)) (left : ℕ) (after put : List (List ℕ)) : Type 0 where
  pub led : Splices 0 (drop left splices) lines after
  pub put_is : put ≡ put_by (take left splices)
