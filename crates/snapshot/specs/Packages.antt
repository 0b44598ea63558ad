-- The packages of an index (reqlock's own format of an index).
use Rattle.std.specs.Prelude.{ℕ, ◌==◌, List, [], ◌∷◌, Bool, codes, map, take, flat_map, ⊤, Option, Some, None, option_and_then, find, Result, Ok, Err, if◌then◌else◌}
use Rattle.std.specs.List.{enumerate_from, filter_map, list_any}
use Rattle.std.specs.Option.{option_map_or}
use Rattle.std.specs.Str.{bytes_eq, is_utf8}
use Rattle.serde_json.specs.Data.{Data, Items}
use Rattle.serde_json.specs.Find.{as_array, as_number, as_str, as_u64}
use Rattle.serde_json.specs.Read.{read as read_json}
use Rattle.sha2.specs.Sha256.{sha256}
use Rattle.markers.specs.Names.{is_name, normal_of}
use Rattle.snapshot.specs.declared.fault.Fault.{Fault}
use Rattle.snapshot.specs.declared.fault.Fault.TheVariants.{NotJson, DuplicatePackage}
use Rattle.snapshot.specs.declared.package.Package.{Package}
use Rattle.snapshot.specs.declared.package.ReadPackage.{ReadPackage}
use Rattle.snapshot.specs.declared.package.ReadPackages.{ReadPackages}
use Rattle.snapshot.specs.declared.skipped.Skipped.{Skipped}
use Rattle.snapshot.specs.Release.{Release}
use Rattle.snapshot.specs.Shape.{◌>>=◌, below, each_from, field, key_path, object_of, required}
use Rattle.snapshot.specs.Releases.{releases_in}

-- what an index holds: its packages, the releases that are left out, and the SHA-256 digest of its bytes
pub record Index : Type 0 where
  pub packages : List Package
  pub skipped : List Skipped
  pub digest : List ℕ

-- the normal form of a text that is a name (PEP 503, "Normalized Names")
abbrev pub name_in : List ℕ → Option (List ℕ)
name_in text = if is_name text then Some (normal_of text) else None

-- a value that is a name
abbrev pub as_name : Data → Option (List ℕ)
as_name d = option_and_then name_in (as_str d)

-- a package: its name, its releases, and those that are left out
unfoldable pub package_of : Data → Result ReadPackage Fault
package_of d = do
  _ ← object_of d
  name ← field (required as_name) (codes "name") d
  listed ← field (required as_array) (codes "releases") d
  read ← below (key_path (codes "releases")) (releases_in name listed)
  Ok (record { kept = record { name = name; releases = read.releases }; skipped = read.skipped })

-- the version of the format, which is 1
abbrev pub as_one : Data → Option ⊤
as_one d = option_and_then (λ n. if n == 1 then Some tt else None) (option_and_then as_u64 (as_number d))

-- packages with what is left out of them
abbrev pub together : List ReadPackage → ReadPackages
together read = record { packages = map (λ r. r.kept) read; skipped = flat_map (λ r. r.skipped) read }

-- the packages that an array lists
unfoldable pub packages_in : Items → Result ReadPackages Fault
packages_in ds = do
  read ← each_from package_of 0 ds
  Ok (together read)

-- the packages, in the order of the index
unfoldable pub packages_of : Data → Result ReadPackages Fault
packages_of d = do
  _ ← object_of d
  _ ← field (required as_one) (codes "snapshot") d
  packages ← field (required as_array) (codes "packages") d
  below (key_path (codes "packages")) (packages_in packages)

-- whether a package has the name
abbrev pub is_named : List ℕ → Package → Bool
is_named name p = bytes_eq p.name name

-- the name of the package at a place, where one before it has this name too
abbrev pub repeated_at : List Package → ℕ × Package → Option (List ℕ)
repeated_at packages at = if list_any (is_named at.1.name) (take at.0 packages) then Some at.1.name else None

-- the names of the packages that have the name of one before them, as they are listed
abbrev pub repeated_names : List Package → List (List ℕ)
repeated_names packages = filter_map (repeated_at packages) (enumerate_from 0 packages)

-- packages none of which has an earlier one's name, or the first of these names
abbrev pub unless_repeated : List (List ℕ) → Result ⊤ Fault
unless_repeated [] = Ok tt
unless_repeated (name ∷ more) = Err (DuplicatePackage name)

-- a JSON value that was read
abbrev pub unless_json : Option Data → Result Data Fault
unless_json None = Err NotJson
unless_json (Some d) = Ok d

-- the JSON value of the bytes, which have to be UTF-8
unfoldable pub json_of : List ℕ → Result Data Fault
json_of bytes = if is_utf8 bytes then unless_json (read_json bytes) else Err NotJson

-- the index that the bytes hold, or why they hold none
unfoldable pub snapshot_of : List ℕ → Result Index Fault
snapshot_of bytes = do
  d ← json_of bytes
  read ← packages_of d
  _ ← unless_repeated (repeated_names read.packages)
  Ok (record { packages = read.packages; skipped = read.skipped; digest = sha256 bytes })

-- the releases of the package of that name, none where there is no such package
abbrev pub releases_of : List ℕ → List Package → List Release
releases_of name packages = option_map_or (λ p. p.releases) (find (is_named name) packages) []
