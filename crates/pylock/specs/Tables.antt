-- The TOML table of a lock (PEP 751, "File Format"). The keys of each table stand in the order of their bytes.
use Rattle.std.specs.Prelude.{ℕ, List, [], ◌∷◌, codes, map, Option, Some, None, pos}
use Rattle.std.specs.Option.{option_map}
use Rattle.hex.specs.Hex.{encode_lower}
use Rattle.pep440.specs.Canonical.{canonical}
use Rattle.toml.specs.Data.{Data, string, integer, array, table, Members, no_members, member}
use Rattle.toml.specs.View.{items_of}
use Rattle.distributions.specs.declared.file.DistributionFile.{DistributionFile}
use Rattle.pylock.specs.Packages.{EntryParts}
use Rattle.pylock.specs.Locks.{LockParts}

-- a key that stands only where it has a value
abbrev pub optional : List ℕ → Option Data → Members → Members
optional key None rest = rest
optional key (Some d) rest = member key d rest

-- a list as an array
abbrev pub array_of : {X : Type 0} → (X → Data) → List X → Data
array_of form xs = array (items_of (map form xs))

-- a list as an array, unless it is empty
abbrev pub some_array : {X : Type 0} → (X → Data) → List X → Option Data
some_array form [] = None
some_array form (x ∷ xs) = Some (array_of form (x ∷ xs))

-- a table of one key
abbrev pub only_key : List ℕ → Data → Data
only_key key d = table (member key d no_members)

-- a file (PEP 751, "packages.wheels", "packages.sdist")
abbrev pub file_table : DistributionFile → Members
file_table f =
    member (codes "hashes") (only_key (codes "sha256") (string f.sha256)) (
    member (codes "name") (string f.name) (
    member (codes "size") (integer (pos f.size)) (
    member (codes "url") (string f.url) no_members)))

unfoldable pub file_data : DistributionFile → Data
file_data f = table (file_table f)

-- the name of a package that another needs (PEP 751, "packages.dependencies")
unfoldable pub dependency_data : List ℕ → Data
dependency_data name = only_key (codes "name") (string name)

-- a package (PEP 751, "packages")
abbrev pub package_table : EntryParts → Members
package_table p =
    optional (codes "dependencies") (some_array dependency_data p.dependencies) (
    member (codes "name") (string p.name) (
    optional (codes "requires-python") (option_map string p.requires_python) (
    optional (codes "sdist") (option_map file_data p.sdist) (
    member (codes "version") (string (canonical p.version)) (
    optional (codes "wheels") (some_array file_data p.wheels) no_members)))))

unfoldable pub package_data : EntryParts → Data
package_data p = table (package_table p)

-- the digest of the index, under the key for tools (PEP 751, "tool")
unfoldable pub tool_data : List ℕ → Data
tool_data digest = only_key (codes "reqlock") (only_key (codes "snapshot") (string (encode_lower digest)))

-- a lock with these environments, packages, and digest of the index
abbrev pub lock_table : Option Data → List ℕ → Data → Members
lock_table environments digest packages =
    member (codes "created-by") (string (codes "reqlock")) (
    optional (codes "environments") environments (
    member (codes "lock-version") (string (codes "1.0")) (
    member (codes "packages") packages (
    member (codes "tool") (tool_data digest) no_members))))

-- a lock for one environment
abbrev pub table_of : LockParts → Members
table_of l = lock_table (Some (array_of string (l.environment ∷ []))) l.snapshot (array_of package_data l.entries)
