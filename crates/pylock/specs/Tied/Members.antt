-- How a table is put together, key by key.
-- Tied to `table_of` by the contract of `Lock::to_table`; need not be read.
use Rattle.std.specs.Prelude.{ℕ, List, Option, Some, None}
use Rattle.std.specs.Cmp.Lexicographic.{slice_cmp}
use Rattle.std.specs.Ordering.{match_ordering, nat_cmp}
use Rattle.toml.specs.Data.{Data, Members, no_members, member}

-- the members with a value at a key, at its place in the order
abbrev pub with_member : List ℕ → Data → Members → Members
with_member k d no_members = member k d no_members
with_member k d (member l e ms) = match_ordering (slice_cmp nat_cmp k l) (member k d (member l e ms)) (member l d ms) (member l e (with_member k d ms))

-- the same where there is a value
abbrev pub with_optional : List ℕ → Option Data → Members → Members
with_optional k None ms = ms
with_optional k (Some d) ms = with_member k d ms
