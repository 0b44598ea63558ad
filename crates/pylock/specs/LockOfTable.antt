-- The lock that a TOML table is (PEP 751, "File Format").
use Rattle.std.specs.Prelude.{ℕ, List, [], ◌∷◌, codes, ⊤, Option, Some, None, option_and_then, Result, Ok, Err, if◌then◌else◌}
use Rattle.std.specs.Str.{bytes_eq, is_utf8}
use Rattle.toml.specs.Data.{Data, Items, no_items, item, Members, as_array, as_str, get_member}
use Rattle.toml.specs.Parse.{parse_document}
use Rattle.pylock.specs.declared.fault.Fault.{Fault}
use Rattle.pylock.specs.declared.fault.Fault.TheVariants as faults
use Rattle.distributions.specs.declared.file.DistributionFile.{DistributionFile}
use Rattle.pylock.specs.declared.flaw.Flaw.{Flaw}
use Rattle.pylock.specs.declared.flaw.Flaw.TheVariants.{OtherForm, OutOfMemory}
use Rattle.pylock.specs.CanonicalTexts.{canonical_version, lower_digest, normal_name}
use Rattle.pylock.specs.Flaws.{◌>>=◌, found}
use Rattle.pylock.specs.Forms.{each, optionally, size_at, some_each, table_with, text_at, text_of, unknown_in}
use Rattle.pylock.specs.Locks.{LockParts, are_entries}
use Rattle.pylock.specs.Packages.{EntryParts, entry_of}

-- the keys of a file
abbrev pub file_keys : List (List ℕ)
file_keys = codes "hashes" ∷ codes "name" ∷ codes "size" ∷ codes "url" ∷ []

-- a file
unfoldable pub file_in : Data → Result DistributionFile Flaw
file_in d = do
  ms ← table_with file_keys d
  hashes ← found (get_member (codes "hashes") ms)
  digests ← table_with (codes "sha256" ∷ []) hashes
  sha256 ← text_at (codes "sha256") digests
  name ← text_at (codes "name") ms
  size ← size_at (codes "size") ms
  url ← text_at (codes "url") ms
  Ok (record { name = name; url = url; size = size; sha256 = sha256 })

-- the name of a package that another needs
unfoldable pub dependency_in : Data → Result (List ℕ) Flaw
dependency_in d = do
  ms ← table_with (codes "name" ∷ []) d
  name ← text_at (codes "name") ms
  normal_name name

-- the keys of a package
abbrev pub package_keys : List (List ℕ)
package_keys = codes "dependencies" ∷ codes "name" ∷ codes "requires-python" ∷ codes "sdist" ∷ codes "version" ∷ codes "wheels" ∷ []

-- a package
unfoldable pub package_in : Data → Result EntryParts Flaw
package_in d = do
  ms ← table_with package_keys d
  dependencies ← some_each dependency_in (get_member (codes "dependencies") ms)
  text ← text_at (codes "name") ms
  name ← normal_name text
  python ← optionally text_of (get_member (codes "requires-python") ms)
  sdist ← optionally file_in (get_member (codes "sdist") ms)
  canonical ← text_at (codes "version") ms
  version ← canonical_version canonical
  wheels ← some_each file_in (get_member (codes "wheels") ms)
  found (entry_of (record { name = name; version = version; requires_python = python; dependencies = dependencies; sdist = sdist; wheels = wheels }))

-- entries in the order of their names
abbrev pub in_order : List EntryParts → Result (List EntryParts) Flaw
in_order ps = if are_entries ps then Ok ps else Err OtherForm

-- the packages
unfoldable pub entries_in : Option Data → Result (List EntryParts) Flaw
entries_in o = do
  ds ← found (option_and_then as_array o)
  ps ← each package_in ds
  in_order ps

-- the one text of an array
abbrev pub only_text : Items → Option (List ℕ)
only_text (item d no_items) = as_str d
only_text _ = None

-- the text of the lock's environment; any text is taken
unfoldable pub environment_in : Option Data → Result (List ℕ) Flaw
environment_in o = do
  ds ← found (option_and_then as_array o)
  found (only_text ds)

-- the name of this tool
abbrev pub creator_in : Option Data → Result ⊤ Flaw
creator_in o = found (option_and_then (λ t. if bytes_eq t (codes "reqlock") then Some tt else None) (option_and_then as_str o))

-- the digest of the index
unfoldable pub tool_in : Option Data → Result (List ℕ) Flaw
tool_in o = do
  d ← found o
  tools ← table_with (codes "reqlock" ∷ []) d
  own ← found (get_member (codes "reqlock") tools)
  ms ← table_with (codes "snapshot" ∷ []) own
  text ← text_at (codes "snapshot") ms
  lower_digest text

-- a flaw inside the value of a key of the whole table
abbrev pub fault_at : List ℕ → Flaw → Fault
fault_at key OtherForm = faults.Shape key
fault_at key OutOfMemory = faults.OutOfMemory

abbrev pub at_key : {A : Type 0} → List ℕ → Result A Flaw → Result A Fault
at_key key (Ok x) = Ok x
at_key key (Err e) = Err (fault_at key e)

-- version 1.0 of the format
abbrev pub format_of : Option (List ℕ) → Result ⊤ Fault
format_of None = Err (faults.Shape (codes "lock-version"))
format_of (Some text) = if bytes_eq text (codes "1.0") then Ok tt else Err faults.VersionUnsupported

-- no key is unknown
abbrev pub if_known : Option (List ℕ) → Result ⊤ Fault
if_known None = Ok tt
if_known (Some key) = Err (faults.Shape key)

-- the keys of a lock
abbrev pub lock_keys : List (List ℕ)
lock_keys = codes "created-by" ∷ codes "environments" ∷ codes "lock-version" ∷ codes "packages" ∷ codes "tool" ∷ []

-- the lock that a table is, or its first fault
unfoldable pub lock_in : Members → Result LockParts Fault
lock_in ms = do
  _ ← format_of (option_and_then as_str (get_member (codes "lock-version") ms))
  environment ← at_key (codes "environments") (environment_in (get_member (codes "environments") ms))
  _ ← at_key (codes "created-by") (creator_in (get_member (codes "created-by") ms))
  entries ← at_key (codes "packages") (entries_in (get_member (codes "packages") ms))
  snapshot ← at_key (codes "tool") (tool_in (get_member (codes "tool") ms))
  _ ← if_known (unknown_in lock_keys ms)
  Ok (record { environment = environment; snapshot = snapshot; entries = entries })

-- TOML that was read
abbrev pub unless_toml : Option Members → Result Members Fault
unless_toml None = Err faults.NotToml
unless_toml (Some ms) = Ok ms

-- the TOML table of the bytes, which have to be UTF-8
unfoldable pub toml_of : List ℕ → Result Members Fault
toml_of bytes = if is_utf8 bytes then unless_toml (parse_document bytes) else Err faults.NotToml

-- the lock that the bytes of a file are, or why they are none
unfoldable pub lock_in_text : List ℕ → Result LockParts Fault
lock_in_text bytes = do
  ms ← toml_of bytes
  lock_in ms
