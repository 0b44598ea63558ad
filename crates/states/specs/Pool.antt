-- What the versions of a lock are chosen from. It is reqlock's own rule.
use Rattle.std.specs.Prelude.{Bool, true, false}
use Rattle.snapshot.specs.Packages.{Index}

-- an index, and whether the kept version of a name is its only candidate
pub record PoolParts : Type 0 where
  pub index : Index
  pub only_kept : Bool

-- an index over which a name with a kept version has other candidates too
abbrev pub whole : Index → PoolParts
whole index = record { index = index; only_kept = false }

-- an index over which the kept version of a name is its only candidate
abbrev pub kept_alone : Index → PoolParts
kept_alone index = record { index = index; only_kept = true }
