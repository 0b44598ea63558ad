-- What is known of each solution that has some pins.
-- Tied to `IsBest` by the contract of `solved`; need not be read.
use Rattle.std.specs.Prelude.{ℕ, List, [], Option, Some, Bool, true, false, ◌≡◌, ◌<◌, ◌⊎◌, length}
use Rattle.std.specs.List.{Contains, slice_index_or}
use Rattle.lists.specs.Bits.{IsDifference, LiesWithin}
use Rattle.search.specs.declared.term.Term.{Term}
use Rattle.search.specs.Rules.{Rules}
use Rattle.search.specs.Solutions.{Has, Needed, Pin, Solution}
use Rattle.set_conflicts.specs.declared.domains.Domains.{Domains}

-- what is left of a node
abbrev pub set_at : List (List ℕ) → ℕ → List ℕ
set_at sets node = slice_index_or sets node []

-- whether a node is marked as needed
abbrev pub mark_at : List Bool → ℕ → Bool
mark_at marks node = slice_index_or marks node false

-- in each solution with the pins the marked nodes are needed, and what a needed node has is left there
pub record Keeps (rules : Rules ℕ ℕ ℕ ℕ) (pins : List (Pin ℕ ℕ)) (domains : Domains) : Type 0 where
  pub needed : (s : ℕ → Option ℕ) → Solution rules s → Has rules s pins → (node : ℕ) → mark_at domains.needed.items node ≡ true → Needed rules s node
  pub kept : (s : ℕ → Option ℕ) → Solution rules s → Has rules s pins → (node v : ℕ) → node < length domains.sets.items → Needed rules s node → s (rules.on node) ≡ Some v → Contains (set_at domains.sets.items node) v

-- no solution with the pins has one of these versions at the node
abbrev pub Excludes : Rules ℕ ℕ ℕ ℕ → List (Pin ℕ ℕ) → ℕ → List ℕ → Type 0
Excludes rules pins node cut = (s : ℕ → Option ℕ) → Solution rules s → Has rules s pins → Needed rules s node → (v : ℕ) → s (rules.on node) ≡ Some v → Contains cut v → ⊥

-- each solution with the pins needs the node
abbrev pub Needs : Rules ℕ ℕ ℕ ℕ → List (Pin ℕ ℕ) → ℕ → Type 0
Needs rules pins node = (s : ℕ → Option ℕ) → Solution rules s → Has rules s pins → Needed rules s node

-- the node is marked, and what is left of it lies within the set
pub record Holds (domains : Domains) (node : ℕ) (set : List ℕ) : Type 0 where
  pub marked : mark_at domains.needed.items node ≡ true
  pub below : node < length domains.sets.items
  pub within : LiesWithin (set_at domains.sets.items node) set

-- each term of the conflict holds, or is on the node and has all of these versions
abbrev pub HoldsBut : Domains → ℕ → List ℕ → Term ℕ ℕ → Type 0
HoldsBut domains node cut t = Holds domains t.node t.versions ⊎ ((t.node ≡ node) × LiesWithin cut t.versions)

abbrev pub Cuts : Domains → ℕ → List ℕ → List (Term ℕ ℕ) → Type 0
Cuts domains node cut conflict = (t : Term ℕ ℕ) → Contains conflict t → HoldsBut domains node cut t

-- these versions are taken out at the node, and nothing else changes
pub record IsCut (old new : Domains) (node : ℕ) (cut : List ℕ) : Type 0 where
  pub room : length new.sets.items ≡ length old.sets.items
  pub own : IsDifference (set_at new.sets.items node) (set_at old.sets.items node) cut
  pub others : (other : ℕ) → (other ≡ node → ⊥) → set_at new.sets.items other ≡ set_at old.sets.items other
  pub needed : new.needed.items ≡ old.needed.items

-- the node is marked, and nothing else changes
pub record IsMarkedToo (old new : Domains) (node : ℕ) : Type 0 where
  pub sets : new.sets.items ≡ old.sets.items
  pub others : (other : ℕ) → mark_at new.needed.items other ≡ true → (other ≡ node) ⊎ (mark_at old.needed.items other ≡ true)
