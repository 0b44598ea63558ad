-- The tables of locks have no date-time, so each that they have is valid.
use Rattle.std.proofs.Common.{◌≡◌, true, List, [], ◌∷◌, map, codes, Option, Some, None, refl, ℕ}
use Rattle.std.specs.Option.{option_map}
use Rattle.toml.specs.Data.{Data, string, Members, no_members, member, has_valid_dates, items_have_valid_dates, members_have_valid_dates}
use Rattle.toml.specs.View.{items_of}
use Rattle.pep440.specs.Canonical.{canonical}
use Rattle.distributions.specs.declared.file.DistributionFile.{DistributionFile}
use Rattle.pylock.specs.Locks.{LockParts}
use Rattle.pylock.specs.Packages.{EntryParts}
use Rattle.pylock.specs.Tables.{array_of, dependency_data, file_data, lock_table, optional, package_data, package_table, some_array, table_of, tool_data}
use Rattle.pylock.specs.declared.joint.JointLock.{JointLock}
use Rattle.pylock.specs.declared.joint.JointPackage.{JointPackage}
use Rattle.pylock.specs.declared.joint.Reference.{Reference}
use Rattle.pylock.specs.Joint.{joint_package_data, joint_table, reference_data}

abbrev some_valid : Option Data → Type 0
some_valid None = true ≡ true
some_valid (Some d) = has_valid_dates d ≡ true

items-valid : {X : Type 0} (form : X → Data) → ((x : X) → has_valid_dates (form x) ≡ true) → (xs : List X) → items_have_valid_dates (items_of (map form xs)) ≡ true
items-valid form h [] = refl
items-valid form h (x ∷ xs) = rw (h x) (items-valid form h xs)

array-valid : {X : Type 0} (form : X → Data) → ((x : X) → has_valid_dates (form x) ≡ true) → (xs : List X) → some_valid (some_array form xs)
array-valid form h [] = refl
array-valid form h (x ∷ xs) = items-valid form h (x ∷ xs)

map-valid : {X : Type 0} (form : X → Data) → ((x : X) → has_valid_dates (form x) ≡ true) → (o : Option X) → some_valid (option_map form o)
map-valid form h None = refl
map-valid form h (Some x) = h x

optional-valid : (key : List ℕ) (o : Option Data) (ms : Members) → some_valid o → members_have_valid_dates ms ≡ true → members_have_valid_dates (optional key o ms) ≡ true
optional-valid key None ms h k = k
optional-valid key (Some d) ms h k = rw h k

file-valid : (f : DistributionFile) → has_valid_dates (file_data f) ≡ true
unfolding file_data
file-valid f = refl

dependency-valid : (name : List ℕ) → has_valid_dates (dependency_data name) ≡ true
unfolding dependency_data
dependency-valid name = refl

table-valid : (p : EntryParts) → members_have_valid_dates (package_table p) ≡ true
table-valid p =
    let m6 = optional (codes "wheels") (some_array file_data p.wheels) no_members in
    let m5 = member (codes "version") (string (canonical p.version)) m6 in
    let m4 = optional (codes "sdist") (option_map file_data p.sdist) m5 in
    let m3 = optional (codes "requires-python") (option_map string p.requires_python) m4 in
    let m2 = member (codes "name") (string p.name) m3 in
    let h6 : members_have_valid_dates m6 ≡ true = optional-valid (codes "wheels") (some_array file_data p.wheels) no_members (array-valid file_data file-valid p.wheels) refl in
    let h4 : members_have_valid_dates m4 ≡ true = optional-valid (codes "sdist") (option_map file_data p.sdist) m5 (map-valid file_data file-valid p.sdist) h6 in
    let h3 : members_have_valid_dates m3 ≡ true = optional-valid (codes "requires-python") (option_map string p.requires_python) m4 (map-valid string (λ _. refl) p.requires_python) h4 in
    optional-valid (codes "dependencies") (some_array dependency_data p.dependencies) m2 (array-valid dependency_data dependency-valid p.dependencies) h3

package-valid : (p : EntryParts) → has_valid_dates (package_data p) ≡ true
unfolding package_data
package-valid p = table-valid p

tool-valid : (digest : List ℕ) → has_valid_dates (tool_data digest) ≡ true
unfolding tool_data
tool-valid digest = refl

keys-valid : (environments : Option Data) (digest : List ℕ) (packages : Data) → some_valid environments → has_valid_dates packages ≡ true → members_have_valid_dates (lock_table environments digest packages) ≡ true
keys-valid environments digest packages h k =
    let behind = member (codes "lock-version") (string (codes "1.0")) (member (codes "packages") packages (member (codes "tool") (tool_data digest) no_members)) in
    optional-valid (codes "environments") environments behind h (rw (k, tool-valid digest) refl)

-- each date-time of a lock's table is valid
pub lock-valid : (l : LockParts) → members_have_valid_dates (table_of l) ≡ true
lock-valid l = keys-valid (Some (array_of string (l.environment ∷ []))) l.snapshot (array_of package_data l.entries) refl (items-valid package_data package-valid l.entries)

-- ---- locks for several environments

reference-valid : (r : Reference) → has_valid_dates (reference_data r) ≡ true
unfolding reference_data
reference-valid r =
    let versions = option_map (λ v. string (canonical v)) r.version in
    let behind = member (codes "name") (string r.name) (optional (codes "version") versions no_members) in
    let h : members_have_valid_dates behind ≡ true = optional-valid (codes "version") versions no_members (map-valid (λ v. string (canonical v)) (λ _. refl) r.version) refl in
    optional-valid (codes "marker") (option_map string r.marker) behind (map-valid string (λ _. refl) r.marker) h

joint-package-valid : (p : JointPackage) → has_valid_dates (joint_package_data p) ≡ true
unfolding joint_package_data
joint-package-valid p =
    let own = package_table (record p.entry { dependencies = [] }) in
    let marked = optional (codes "marker") (option_map string p.marker) own in
    let h : members_have_valid_dates marked ≡ true = optional-valid (codes "marker") (option_map string p.marker) own (map-valid string (λ _. refl) p.marker) (table-valid (record p.entry { dependencies = [] })) in
    optional-valid (codes "dependencies") (some_array reference_data p.needs) marked (array-valid reference_data reference-valid p.needs) h

-- so is each of the table of a lock for several environments
pub joint-valid : (l : JointLock) → members_have_valid_dates (joint_table l) ≡ true
joint-valid l = keys-valid (some_array string l.environments) l.snapshot (array_of joint_package_data l.packages) (array-valid string (λ _. refl) l.environments) (items-valid joint_package_data joint-package-valid l.packages)
