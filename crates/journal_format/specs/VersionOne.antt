-- The JSON values of the lines that version 1 wrote (reqlock's own format). There is one target, without a name: the header has its
-- environment and the digest of its lock, and an entry stands without a target. The keys of each object stand in the order of their bytes.
use Rattle.std.specs.Prelude.{ℕ, List, ◌++◌, codes}
use Rattle.std.specs.List.{flat_map}
use Rattle.changes.specs.Changes.{ChangeParts}
use Rattle.changes.specs.declared.change.parts.EntryChange.{EntryChange}
use Rattle.serde_json.specs.Data.{Data, string, array, object, no_members, member, item, no_items}
use Rattle.journal_format.specs.declared.header.Header.{Header}
use Rattle.journal_format.specs.declared.header.HeaderTarget.{HeaderTarget}
use Rattle.journal_format.specs.Written.{array_of, digest_data, digests_data, entry_data, environment_data, line_of, natural, nullable, splice_data}

-- `[name, old, new]`
unfoldable pub entry_change_one : EntryChange → Data
entry_change_one c = array (item (string c.name) (item (nullable entry_data c.old) (item (nullable entry_data c.new) no_items)))

-- a step
unfoldable pub step_one : ChangeParts → Data
step_one c = object (
    member (codes "entries") (array_of entry_change_one c.entries) (
    member (codes "lines") (array_of splice_data c.splices) (
    member (codes "snapshot") (nullable digests_data c.digests) no_members)))

-- a header, with its one target
unfoldable pub header_one : Header → HeaderTarget → Data
header_one h target = object (
    member (codes "cursor") (natural h.cursor) (
    member (codes "environment") (environment_data target.environment) (
    member (codes "journal") (natural 1) (
    member (codes "lock") (digest_data target.lock) (
    member (codes "requirements") (digest_data h.requirements) (
    member (codes "steps") (natural h.steps) no_members))))))

-- the header's line, and a line for each step
abbrev pub journal_one : Header → HeaderTarget → List ChangeParts → List ℕ
journal_one header target changes = line_of (header_one header target) ++ flat_map (λ change. line_of (step_one change)) changes
