-- What the hash of a version feeds a hasher: a function of what the order reads.
use Rattle.std.specs.Prelude.{ℕ, ◌++◌}
use Rattle.std.specs.Hash as fed
use Rattle.std.specs.Hash.{HashWrites}
use Rattle.pep440.specs.declared.parts.LocalPart.{LocalPart}
use Rattle.pep440.specs.declared.parts.LocalPart.TheVariants.{Word, Number}
use Rattle.pep440.specs.Version.{VersionParts}
use Rattle.pep440.specs.Order.{dev_key, post_key, pre_key, trimmed}

-- a rank and a number
abbrev pub rank_writes : ℕ × ℕ → HashWrites
rank_writes p = fed.u8 p.0 ++ fed.u64 p.1

abbrev pub part_writes : LocalPart → HashWrites
part_writes (Word w) = fed.str w
part_writes (Number n) = fed.u64 n

-- the release is fed without its trailing zeros
abbrev pub version_writes : VersionParts → HashWrites
version_writes v = fed.u64 v.epoch ++ (fed.slice fed.u64 (trimmed v.release) ++ (rank_writes (pre_key v)
    ++ (rank_writes (post_key v.post) ++ (rank_writes (dev_key v.dev) ++ fed.slice part_writes v.local))))
