-- What a stopped save has left to do, and how far its repair has come. All of it is reqlock's own rule.
use Rattle.std.specs.Prelude.{◌≡◌, ◌⊎◌, ℕ, true, List, [], ◌∷◌, None, IsSome}
use Rattle.folder.specs.Held.{Held, in_turn, is_among, removed, renamed}
use Rattle.folder.specs.Saves.{NewFileParts, all_staged, saved}
use Rattle.folder.specs.Tied.Steps.{IsOnTheWay}

-- what a stopped save has left to do: files that are to be removed, and then files that are to be put from beside into their places
pub record LeftParts : Type 0 where
  pub going : List (List ℕ)
  pub names : List (List ℕ)

-- when it was done
abbrev pub finished : LeftParts → Held → Held
finished left held = in_turn renamed left.names (in_turn removed left.going held)

-- something stands beside each of these places when its turn comes
abbrev pub AreBeside : List (List ℕ) → Held → Type 0
AreBeside [] held = Unit {0}
AreBeside (name ∷ names) held = IsSome (held.beside name) × AreBeside names (renamed name held)

-- a repair has come so far: the first files that go are removed; or all of them are, and the first others were put into their places
abbrev pub IsEnding : LeftParts → Held → Held → Type 0
IsEnding left old new = IsOnTheWay removed left.going old new ⊎ IsOnTheWay renamed left.names (in_turn removed left.going old) new

-- no place has changed
abbrev pub HasSamePlaces : Held → Held → Type 0
HasSamePlaces old new = new.placed ≡ old.placed

-- each place holds what it held, or what stood beside it, or nothing; and beside it stands what stood there, or nothing
abbrev pub IsMoveOf : Held → Held → Type 0
IsMoveOf old new =
    (name : List ℕ)
    → ((new.placed name ≡ old.placed name) ⊎ ((new.placed name ≡ old.beside name) ⊎ (new.placed name ≡ None)))
    × ((new.beside name ≡ old.beside name) ⊎ (new.beside name ≡ None))

-- each file stands as when all was written beside, or as after the save
abbrev pub IsBetween : List NewFileParts → List (List ℕ) → Held → Held → Type 0
IsBetween files going old new =
    (name : List ℕ)
    → ((new.placed name ≡ old.placed name) × (new.beside name ≡ (all_staged files old).beside name))
    ⊎ ((new.placed name ≡ (saved files going old).placed name) × (new.beside name ≡ (saved files going old).beside name))

-- all of these names are among those
abbrev pub AreAmong : List (List ℕ) → List (List ℕ) → Type 0
AreAmong some names = (name : List ℕ) → is_among some name ≡ true → is_among names name ≡ true
