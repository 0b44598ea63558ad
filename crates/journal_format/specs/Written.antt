-- The JSON values of a journal's lines (reqlock's own format, versions 2 and 3). The keys of each object stand in the order of their bytes.
use Rattle.std.specs.Prelude.{ℕ, List, [], ◌∷◌, ◌++◌, codes, map, Option, Some, None}
use Rattle.std.specs.List.{flat_map}
use Rattle.hex.specs.Hex.{encode_lower}
use Rattle.pep440.specs.Canonical.{canonical}
use Rattle.distributions.specs.declared.file.DistributionFile.{DistributionFile}
use Rattle.pylock.specs.Packages.{EntryParts}
use Rattle.changes.specs.Changes.{ChangeParts}
use Rattle.changes.specs.declared.change.parts.DigestChange.{DigestChange}
use Rattle.changes.specs.declared.change.parts.EntryChange.{EntryChange}
use Rattle.changes.specs.declared.change.parts.Splice.{Splice}
use Rattle.changes.specs.declared.change.parts.TargetChange.{TargetChange}
use Rattle.markers.specs.Environment.{Texts, all_variables, text_of}
use Rattle.markers.specs.Variables.{variable_name}
use Rattle.markers.specs.declared.variable.Variable.{Variable}
use Rattle.serde_json.specs.Data.{Data, null, number, unsigned, string, array, object, Members, no_members, member, item, no_items}
use Rattle.serde_json.specs.View.{items_of}
use Rattle.serde_json.specs.Written.{compact_text}
use Rattle.journal_format.specs.declared.header.Header.{Header}
use Rattle.journal_format.specs.declared.header.HeaderTarget.{HeaderTarget}
use Rattle.journal_format.specs.declared.header.JournalVersion.{JournalVersion}
use Rattle.journal_format.specs.declared.header.JournalVersion.TheVariants.{Three}

-- a list as an array
abbrev pub array_of : {X : Type 0} → (X → Data) → List X → Data
array_of form xs = array (items_of (map form xs))

-- what may be absent, null where it is
abbrev pub nullable : {X : Type 0} → (X → Data) → Option X → Data
nullable form None = null
nullable form (Some x) = form x

-- a number
abbrev pub natural : ℕ → Data
natural n = number (unsigned n)

-- a digest in hexadecimal digits, letters in lower case
abbrev pub digest_data : List ℕ → Data
digest_data bytes = string (encode_lower bytes)

-- a file
unfoldable pub file_data : DistributionFile → Data
file_data f = object (
    member (codes "name") (string f.name) (
    member (codes "sha256") (string f.sha256) (
    member (codes "size") (natural f.size) (
    member (codes "url") (string f.url) no_members))))

-- an entry, without its name
unfoldable pub entry_data : EntryParts → Data
entry_data p = object (
    member (codes "dependencies") (array_of string p.dependencies) (
    member (codes "requires_python") (nullable string p.requires_python) (
    member (codes "sdist") (nullable file_data p.sdist) (
    member (codes "version") (string (canonical p.version)) (
    member (codes "wheels") (array_of file_data p.wheels) no_members)))))

-- `[target, name, old, new]`
unfoldable pub entry_change_data : EntryChange → Data
entry_change_data c = array (item (string c.target) (item (string c.name) (item (nullable entry_data c.old) (item (nullable entry_data c.new) no_items))))

-- `[place, [old lines], [new lines]]`
unfoldable pub splice_data : Splice → Data
splice_data s = array (item (natural s.place) (item (array_of string s.old) (item (array_of string s.new) no_items)))

-- `[old, new]`
unfoldable pub digests_data : DigestChange → Data
digests_data d = array (item (digest_data d.old) (item (digest_data d.new) no_items))

-- the members of variables, each with its text
abbrev pub variable_members : Texts → List Variable → Members
variable_members texts [] = no_members
variable_members texts (variable ∷ rest) = member (variable_name variable) (string (text_of texts variable)) (variable_members texts rest)

-- an environment
unfoldable pub environment_data : Texts → Data
environment_data texts = object (variable_members texts all_variables)

-- `[name, old, new]`
unfoldable pub target_change_data : TargetChange → Data
target_change_data c = array (item (string c.name) (item (nullable environment_data c.old) (item (nullable environment_data c.new) no_items)))

-- the key of targets stands where there is one
abbrev pub targets_member : List TargetChange → Members
targets_member [] = no_members
targets_member (change ∷ changes) = member (codes "targets") (array_of target_change_data (change ∷ changes)) no_members

-- a step
unfoldable pub step_data : ChangeParts → Data
step_data c = object (
    member (codes "entries") (array_of entry_change_data c.entries) (
    member (codes "lines") (array_of splice_data c.splices) (
    member (codes "snapshot") (nullable digests_data c.digests) (
    targets_member c.targets))))

-- a target of a header
unfoldable pub target_data : HeaderTarget → Data
target_data t = object (
    member (codes "environment") (environment_data t.environment) (
    member (codes "lock") (digest_data t.lock) (
    member (codes "name") (string t.name) no_members)))

-- the number of the version that is written
abbrev pub written_version : JournalVersion → ℕ
written_version Three = 3
written_version version = 2

-- a header
unfoldable pub header_data : Header → Data
header_data h = object (
    member (codes "cursor") (natural h.cursor) (
    member (codes "journal") (natural (written_version h.version)) (
    member (codes "requirements") (digest_data h.requirements) (
    member (codes "steps") (natural h.steps) (
    member (codes "targets") (array_of target_data h.targets) no_members)))))

-- a line: compact JSON and LF
abbrev pub line_of : Data → List ℕ
line_of d = compact_text d ++ 10 ∷ []

-- the header's line, and a line for each step
abbrev pub journal_of : Header → List ChangeParts → List ℕ
journal_of header changes = line_of (header_data header) ++ flat_map (λ change. line_of (step_data change)) changes
