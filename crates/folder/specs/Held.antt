-- What a folder holds. All of it is reqlock's own rule.
use Rattle.std.specs.Prelude.{◌≡◌, ◌⊎◌, ℕ, Bool, true, false, List, [], ◌∷◌, Option, Some, None, bytes_eq, if◌then◌else◌}
use Rattle.std.specs.List.{list_any}

-- the bytes of files by their names, of each that there is
abbrev pub Files : Type 0
Files = List ℕ → Option (List ℕ)

-- these files, but of this name these bytes
abbrev pub with_file : Files → List ℕ → Option (List ℕ) → Files
with_file files name bytes other = if bytes_eq name other then bytes else files other

-- what stands in the place of each file, and what stands beside it
pub record Held : Type 0 where
  pub placed : Files
  pub beside : Files

-- when bytes were written beside a place
abbrev pub staged : List ℕ → List ℕ → Held → Held
staged name bytes held = record { placed = held.placed; beside = with_file held.beside name (Some bytes) }

-- when what stands beside a place was put into it
abbrev pub renamed : List ℕ → Held → Held
renamed name held = record { placed = with_file held.placed name (held.beside name); beside = with_file held.beside name None }

-- when a file was removed from its place
abbrev pub removed : List ℕ → Held → Held
removed name held = record { placed = with_file held.placed name None; beside = held.beside }

-- when what stands beside a place was removed
abbrev pub cleared : List ℕ → Held → Held
cleared name held = record { placed = held.placed; beside = with_file held.beside name None }

-- whether a name is one of these
abbrev pub is_among : List (List ℕ) → List ℕ → Bool
is_among names name = list_any (λ other. bytes_eq other name) names

-- the same, but for what stands beside the places of these names
pub record IsSameBut (names : List (List ℕ)) (old new : Held) : Type 0 where
  pub placed : new.placed ≡ old.placed
  pub beside : (name : List ℕ) → is_among names name ≡ false → new.beside name ≡ old.beside name

-- nothing is changed but that some of what stood beside the places of these names is gone
pub record IsCleared (names : List (List ℕ)) (old new : Held) : Type 0 where
  pub placed : new.placed ≡ old.placed
  pub beside : (name : List ℕ) → (new.beside name ≡ old.beside name) ⊎ ((is_among names name ≡ true) × (new.beside name ≡ None))

-- a step for each item in turn
abbrev pub in_turn : {X : Type 0} → (X → Held → Held) → List X → Held → Held
in_turn step [] held = held
in_turn step (x ∷ xs) held = in_turn step xs (step x held)
