-- A table without one of its keys. It is reqlock's own rule.
use Rattle.std.specs.Prelude.{ℕ, List, if◌then◌else◌}
use Rattle.std.specs.Str.{bytes_eq}
use Rattle.toml.specs.Data.{Members, no_members, member}

-- all members but the first one of that key
abbrev pub without_member : List ℕ → Members → Members
without_member key no_members = no_members
without_member key (member name d rest) = if bytes_eq key name then rest else member name d (without_member key rest)
