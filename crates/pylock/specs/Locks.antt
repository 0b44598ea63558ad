-- Locks (PEP 751).
use Rattle.std.specs.Prelude.{◌≡◌, ℕ, Bool, true, List, length, map, Option, Some, None, if◌then◌else◌}
use Rattle.std.specs.List.{AllByRecursion}
use Rattle.hex.specs.Hex.{IsBytes}
use Rattle.lists.specs.Rising.{rises}
use Rattle.pylock.specs.Packages.{IsPackage, EntryParts}

-- what a lock holds: the marker text of its environment, the digest of its index, its entries
pub record LockParts : Type 0 where
  pub environment : List ℕ
  pub snapshot : List ℕ
  pub entries : List EntryParts

-- entries in the order of their names, no name twice
abbrev pub are_entries : List EntryParts → Bool
are_entries ps = rises (map (λ p. p.name) ps)

-- what holds of every lock
pub record IsLock (l : LockParts) : Type 0 where
  pub length : length l.snapshot ≡ 32
  pub bytes : IsBytes l.snapshot
  pub order : are_entries l.entries ≡ true
  pub entries : AllByRecursion IsPackage l.entries

-- the lock of these parts, where the entries are in order
abbrev pub lock_of : LockParts → Option LockParts
lock_of l = if are_entries l.entries then Some l else None
