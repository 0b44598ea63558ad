-- The table of a lock is read back as the lock.
use Rattle.std.proofs.Common.{◌≡◌, ℕ, true, List, [], ◌∷◌, map, codes, Option, Some, None, Result, Ok, refl}
use Rattle.std.specs.List.{AllByRecursion, list_all}
use Rattle.std.specs.Option.{option_map}
use Rattle.hex.specs.Hex.{encode_lower}
use Rattle.pep440.specs.Canonical.{canonical}
use Rattle.toml.specs.Data.{Data, string, Members, no_members, member, get_member}
use Rattle.toml.specs.View.{items_of}
use Rattle.distributions.specs.declared.file.DistributionFile.{DistributionFile}
use Rattle.pylock.specs.declared.flaw.Flaw.{Flaw}
use Rattle.pylock.specs.CanonicalTexts.{lower_digest}
use Rattle.pylock.specs.Forms.{after, each, optionally, some_each, text_of, unknown_in}
use Rattle.pylock.specs.Locks.{IsLock, LockParts, are_entries}
use Rattle.markers.specs.Names.{is_normal}
use Rattle.pylock.specs.Packages.{IsPackage, EntryParts, is_other}
use Rattle.pylock.specs.LockOfTable.{dependency_in, entries_in, environment_in, file_in, lock_in, package_in, package_keys, tool_in}
use Rattle.pylock.specs.Tables.{array_of, dependency_data, file_data, optional, package_data, some_array, table_of, tool_data}
use Rattle.pylock.proofs.CanonicalBack.{Back, ReadsVersions, all-back, canonical-back, lower-back, names-back}
use Rattle.pylock.proofs.PackageFacts.{parts}
use Rattle.std.proofs.lemmas.Bool.{and_parts}

file-back : (f : DistributionFile) → file_in (file_data f) ≡ Ok f
unfolding file_in file_data unknown_in after
file-back f = refl

dependency-back : (name : List ℕ) → is_normal name ≡ true → dependency_in (dependency_data name) ≡ Ok name
unfolding dependency_in dependency_data unknown_in after
dependency-back name normal = rw normal refl

module _ {X : Type 0} (form : X → Data) (reading : Data → Result X Flaw) where
  each-back : (xs : List X) → Back form reading xs → each reading (items_of (map form xs)) ≡ Ok xs
  unfolding each
  each-back [] h = refl
  each-back (x ∷ xs) h = rw (h.0, each-back xs h.1) refl

  some-back : (xs : List X) → Back form reading xs → some_each reading (some_array form xs) ≡ Ok xs
  some-back [] h = refl
  some-back (x ∷ xs) h = each-back (x ∷ xs) h

  optional-back : (o : Option X) → ((x : X) → reading (form x) ≡ Ok x) → optionally reading (option_map form o) ≡ Ok o
  optional-back None h = refl
  optional-back (Some x) h = rw (h x) refl

-- what stands at the keys of a package
record At (ms : Members) (o1 o3 o4 o6 : Option Data) (d2 d5 : Data) : Type 0 where
  pub known : unknown_in package_keys ms ≡ None
  pub dependencies : get_member (codes "dependencies") ms ≡ o1
  pub name : get_member (codes "name") ms ≡ Some d2
  pub python : get_member (codes "requires-python") ms ≡ o3
  pub sdist : get_member (codes "sdist") ms ≡ o4
  pub version : get_member (codes "version") ms ≡ Some d5
  pub wheels : get_member (codes "wheels") ms ≡ o6

abbrev keys : Option Data → Option Data → Option Data → Option Data → Data → Data → Members
keys dependencies python sdist wheels name version = optional (codes "dependencies") dependencies (member (codes "name") name (optional (codes "requires-python") python (optional (codes "sdist") sdist (member (codes "version") version (optional (codes "wheels") wheels no_members)))))

at : (dependencies python sdist wheels : Option Data) (name version : Data) → At (keys dependencies python sdist wheels name version) dependencies python sdist wheels name version
unfolding unknown_in after
at None None None None n v = record { known = refl; dependencies = refl; name = refl; python = refl; sdist = refl; version = refl; wheels = refl }
at None None None (Some w) n v = record { known = refl; dependencies = refl; name = refl; python = refl; sdist = refl; version = refl; wheels = refl }
at None None (Some s) None n v = record { known = refl; dependencies = refl; name = refl; python = refl; sdist = refl; version = refl; wheels = refl }
at None None (Some s) (Some w) n v = record { known = refl; dependencies = refl; name = refl; python = refl; sdist = refl; version = refl; wheels = refl }
at None (Some p) None None n v = record { known = refl; dependencies = refl; name = refl; python = refl; sdist = refl; version = refl; wheels = refl }
at None (Some p) None (Some w) n v = record { known = refl; dependencies = refl; name = refl; python = refl; sdist = refl; version = refl; wheels = refl }
at None (Some p) (Some s) None n v = record { known = refl; dependencies = refl; name = refl; python = refl; sdist = refl; version = refl; wheels = refl }
at None (Some p) (Some s) (Some w) n v = record { known = refl; dependencies = refl; name = refl; python = refl; sdist = refl; version = refl; wheels = refl }
at (Some d) None None None n v = record { known = refl; dependencies = refl; name = refl; python = refl; sdist = refl; version = refl; wheels = refl }
at (Some d) None None (Some w) n v = record { known = refl; dependencies = refl; name = refl; python = refl; sdist = refl; version = refl; wheels = refl }
at (Some d) None (Some s) None n v = record { known = refl; dependencies = refl; name = refl; python = refl; sdist = refl; version = refl; wheels = refl }
at (Some d) None (Some s) (Some w) n v = record { known = refl; dependencies = refl; name = refl; python = refl; sdist = refl; version = refl; wheels = refl }
at (Some d) (Some p) None None n v = record { known = refl; dependencies = refl; name = refl; python = refl; sdist = refl; version = refl; wheels = refl }
at (Some d) (Some p) None (Some w) n v = record { known = refl; dependencies = refl; name = refl; python = refl; sdist = refl; version = refl; wheels = refl }
at (Some d) (Some p) (Some s) None n v = record { known = refl; dependencies = refl; name = refl; python = refl; sdist = refl; version = refl; wheels = refl }
at (Some d) (Some p) (Some s) (Some w) n v = record { known = refl; dependencies = refl; name = refl; python = refl; sdist = refl; version = refl; wheels = refl }

package-back : ReadsVersions → (p : EntryParts) → IsPackage p → package_in (package_data p) ≡ Ok p
unfolding package_in package_data
package-back reads p h =
    let a = at (some_array dependency_data p.dependencies) (option_map string p.requires_python) (option_map file_data p.sdist) (some_array file_data p.wheels) (string p.name) (string (canonical p.version)) in
    let q = parts p h.parts in
    let dependencies = some-back dependency_data dependency_in p.dependencies (names-back dependency_data dependency_in dependency-back p.name p.dependencies (and_parts _ (list_all (is_other p.name) p.dependencies) q.dependencies).1) in
    let python = optional-back string text_of p.requires_python (λ _. refl) in
    let sdist = optional-back file_data file_in p.sdist file-back in
    let wheels = some-back file_data file_in p.wheels (all-back file_data file_in p.wheels file-back) in
    rw (a.known, a.dependencies, a.name, a.python, a.sdist, a.version, a.wheels, dependencies, q.name, python, sdist, canonical-back reads p.version h.version, wheels, h.parts) refl

packages-back : ReadsVersions → (ps : List EntryParts) → AllByRecursion IsPackage ps → Back package_data package_in ps
packages-back reads [] h = tt
packages-back reads (p ∷ ps) h = (package-back reads p h.0, packages-back reads ps h.1)

tool-back : (digest : List ℕ) → lower_digest (encode_lower digest) ≡ Ok digest → tool_in (Some (tool_data digest)) ≡ Ok digest
unfolding tool_in tool_data unknown_in after
tool-back digest h = h

entries-back : ReadsVersions → (ps : List EntryParts) → AllByRecursion IsPackage ps → are_entries ps ≡ true → entries_in (Some (array_of package_data ps)) ≡ Ok ps
unfolding entries_in
entries-back reads ps h order = rw (each-back package_data package_in ps (packages-back reads ps h), order) refl

-- the table of a lock is read as the lock
pub lock-back : ReadsVersions → (l : LockParts) → IsLock l → lock_in (table_of l) ≡ Ok l
unfolding lock_in environment_in unknown_in after
lock-back reads l h = rw (entries-back reads l.entries h.entries h.order, tool-back l.snapshot (lower-back l.snapshot h.length h.bytes)) refl
