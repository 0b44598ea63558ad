-- The steps of a save, one after another. Tied to `IsUnderWay` and `saved` by the contract of `save`; only `IsOnTheWay` need be read.
use Rattle.std.specs.Prelude.{◌≡◌, ◌⊎◌, ◌≤◌, ℕ, Bool, true, List, [], ◌∷◌, IsSome, length, take}
use Rattle.folder.specs.Held.{Held, IsSameBut, in_turn, renamed, staged}
use Rattle.folder.specs.Saves.{NewFileParts, names_of}

abbrev pub stage_file : NewFileParts → Held → Held
stage_file file = staged file.name file.bytes

abbrev pub rename_file : NewFileParts → Held → Held
rename_file file = renamed file.name

-- each file stands beside its place when its turn to be renamed comes
abbrev pub AreStaged : List NewFileParts → Held → Type 0
AreStaged [] held = Unit {0}
AreStaged (file ∷ files) held = IsSome (held.beside file.name) × AreStaged files (renamed file.name held)

-- the first steps of some were made
abbrev pub IsOnTheWay : {X : Type 0} → (X → Held → Held) → List X → Held → Held → Type 0
IsOnTheWay step xs old new = (n : ℕ) × (n ≤ length xs) × (new ≡ in_turn step (take n xs) old)

-- the first steps of some were made; or, where that may be, nothing is changed but beside the places of files
abbrev pub IsOnTheWayOrBeside : {X : Type 0} → List NewFileParts → Bool → (X → Held → Held) → List X → Held → Held → Type 0
IsOnTheWayOrBeside files may_be step xs old new = IsOnTheWay step xs old new ⊎ ((may_be ≡ true) × IsSameBut (names_of files) old new)
