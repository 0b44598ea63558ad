-- How deep the tables of locks are.
use Rattle.std.proofs.Common.{ℕ, suc, ◌≤◌, max, List, [], ◌∷◌, map, codes, Option, Some, None, arith}
use Rattle.toml.specs.Data.{Data, string, depth, items_depth, members_depth, Members, no_members, member}
use Rattle.pep440.specs.Canonical.{canonical}
use Rattle.toml.specs.View.{items_of}
use Rattle.distributions.specs.declared.file.DistributionFile.{DistributionFile}
use Rattle.pylock.specs.Locks.{LockParts}
use Rattle.pylock.specs.Packages.{EntryParts}
use Rattle.std.specs.Option.{option_map}
use Rattle.pylock.specs.Tables.{array_of, dependency_data, file_data, lock_table, optional, package_data, package_table, some_array, table_of, tool_data}
use Rattle.pylock.specs.declared.joint.JointLock.{JointLock}
use Rattle.pylock.specs.declared.joint.JointPackage.{JointPackage}
use Rattle.pylock.specs.declared.joint.Reference.{Reference}
use Rattle.pylock.specs.Joint.{joint_package_data, joint_package_table, joint_table, reference_data, reference_table}

both_le : (a b n : ℕ) → a ≤ n → b ≤ n → max a b ≤ n
both_le a b n h k = omega (arith, h, k)

suc_le : (a n : ℕ) → a ≤ n → suc a ≤ suc n
suc_le a n h = omega (arith, h)

le_trans3 : (a : ℕ) → a ≤ 2 → a ≤ 3
le_trans3 a h = omega (arith, h)

none-depth : 0 ≤ 3
none-depth = omega arith

none-depth1 : 0 ≤ 1
none-depth1 = omega arith

none-depth5 : 0 ≤ 5
none-depth5 = omega arith

one-depth : 1 ≤ 5
one-depth = omega arith

text-depth : (n : ℕ) (t : List ℕ) → depth (string t) ≤ n
text-depth n t = omega arith

items-depth : {X : Type 0} (form : X → Data) (n : ℕ) → ((x : X) → depth (form x) ≤ n) → (xs : List X) → items_depth (items_of (map form xs)) ≤ n
items-depth form n h [] = omega arith
items-depth form n h (x ∷ xs) = both_le (depth (form x)) _ n (h x) (items-depth form n h xs)

abbrev some_depth : Option Data → ℕ
some_depth None = 0
some_depth (Some d) = depth d

array-depth : {X : Type 0} (form : X → Data) (n : ℕ) → ((x : X) → depth (form x) ≤ n) → (xs : List X) → some_depth (some_array form xs) ≤ suc n
array-depth form n h [] = omega arith
array-depth form n h (x ∷ xs) = let all = items-depth form n h (x ∷ xs) in omega (arith, all)

map-depth : {X : Type 0} (form : X → Data) (n : ℕ) → ((x : X) → depth (form x) ≤ n) → (o : Option X) → some_depth (option_map form o) ≤ n
map-depth form n h None = omega arith
map-depth form n h (Some x) = h x

optional-depth : (key : List ℕ) (o : Option Data) (ms : Members) (n : ℕ) → some_depth o ≤ n → members_depth ms ≤ n → members_depth (optional key o ms) ≤ n
optional-depth key None ms n h k = k
optional-depth key (Some d) ms n h k = both_le (depth d) (members_depth ms) n h k

file-depth : (f : DistributionFile) → depth (file_data f) ≤ 2
unfolding file_data
file-depth f = omega arith

dependency-depth : (name : List ℕ) → depth (dependency_data name) ≤ 2
unfolding dependency_data
dependency-depth name = omega arith

table-depth : (p : EntryParts) → members_depth (package_table p) ≤ 3
table-depth p =
    let m6 = optional (codes "wheels") (some_array file_data p.wheels) no_members in
    let m5 = member (codes "version") (string (canonical p.version)) m6 in
    let m4 = optional (codes "sdist") (option_map file_data p.sdist) m5 in
    let m3 = optional (codes "requires-python") (option_map string p.requires_python) m4 in
    let m2 = member (codes "name") (string p.name) m3 in
    let files : some_depth (option_map file_data p.sdist) ≤ 3 = le_trans3 _ (map-depth file_data 2 file-depth p.sdist) in
    let h6 : members_depth m6 ≤ 3 = optional-depth (codes "wheels") (some_array file_data p.wheels) no_members 3 (array-depth file_data 2 file-depth p.wheels) none-depth in
    let h5 : members_depth m5 ≤ 3 = both_le 0 (members_depth m6) 3 none-depth h6 in
    let h4 : members_depth m4 ≤ 3 = optional-depth (codes "sdist") (option_map file_data p.sdist) m5 3 files h5 in
    let h3 : members_depth m3 ≤ 3 = optional-depth (codes "requires-python") (option_map string p.requires_python) m4 3 (map-depth string 3 (text-depth 3) p.requires_python) h4 in
    let h2 : members_depth m2 ≤ 3 = both_le 0 (members_depth m3) 3 none-depth h3 in
    optional-depth (codes "dependencies") (some_array dependency_data p.dependencies) m2 3 (array-depth dependency_data 2 dependency-depth p.dependencies) h2

package-depth : (p : EntryParts) → depth (package_data p) ≤ 4
unfolding package_data
package-depth p = suc_le (members_depth (package_table p)) 3 (table-depth p)

tool-depth : (digest : List ℕ) → depth (tool_data digest) ≤ 5
unfolding tool_data
tool-depth digest = omega arith

keys-depth : (environments : Option Data) (digest : List ℕ) (packages : Data) → some_depth environments ≤ 5 → depth packages ≤ 5 → members_depth (lock_table environments digest packages) ≤ 80
keys-depth environments digest packages h k =
    let m5 = member (codes "tool") (tool_data digest) no_members in
    let m4 = member (codes "packages") packages m5 in
    let m3 = member (codes "lock-version") (string (codes "1.0")) m4 in
    let h5 : members_depth m5 ≤ 5 = both_le (depth (tool_data digest)) 0 5 (tool-depth digest) none-depth5 in
    let h4 : members_depth m4 ≤ 5 = both_le (depth packages) (members_depth m5) 5 k h5 in
    let h3 : members_depth m3 ≤ 5 = both_le 0 (members_depth m4) 5 none-depth5 h4 in
    let h2 : members_depth (optional (codes "environments") environments m3) ≤ 5 = optional-depth (codes "environments") environments m3 5 h h3 in
    let h1 : members_depth (lock_table environments digest packages) ≤ 5 = both_le 0 (members_depth (optional (codes "environments") environments m3)) 5 none-depth5 h2 in
    omega (arith, h1)

-- a lock's table is less deep than what `toml` reads
pub lock-depth : (l : LockParts) → members_depth (table_of l) ≤ 80
lock-depth l =
    let entries : depth (array_of package_data l.entries) ≤ 5 = suc_le _ 4 (items-depth package_data 4 package-depth l.entries) in
    keys-depth (Some (array_of string (l.environment ∷ []))) l.snapshot (array_of package_data l.entries) one-depth entries

-- ---- locks for several environments

reference-depth : (r : Reference) → depth (reference_data r) ≤ 2
unfolding reference_data
reference-depth r =
    let versions = option_map (λ v. string (canonical v)) r.version in
    let m3 = optional (codes "version") versions no_members in
    let m2 = member (codes "name") (string r.name) m3 in
    let h3 : members_depth m3 ≤ 1 = optional-depth (codes "version") versions no_members 1 (map-depth (λ v. string (canonical v)) 1 (λ v. text-depth 1 (canonical v)) r.version) none-depth1 in
    let h2 : members_depth m2 ≤ 1 = both_le 0 (members_depth m3) 1 none-depth1 h3 in
    suc_le (members_depth (reference_table r)) 1 (optional-depth (codes "marker") (option_map string r.marker) m2 1 (map-depth string 1 (text-depth 1) r.marker) h2)

joint-package-depth : (p : JointPackage) → depth (joint_package_data p) ≤ 4
unfolding joint_package_data
joint-package-depth p =
    let own = package_table (record p.entry { dependencies = [] }) in
    let marked = optional (codes "marker") (option_map string p.marker) own in
    let h2 : members_depth marked ≤ 3 = optional-depth (codes "marker") (option_map string p.marker) own 3 (map-depth string 3 (text-depth 3) p.marker) (table-depth (record p.entry { dependencies = [] })) in
    suc_le (members_depth (joint_package_table p)) 3 (optional-depth (codes "dependencies") (some_array reference_data p.needs) marked 3 (array-depth reference_data 2 reference-depth p.needs) h2)

-- so is the table of a lock for several environments
pub joint-depth : (l : JointLock) → members_depth (joint_table l) ≤ 80
joint-depth l =
    let packages : depth (array_of joint_package_data l.packages) ≤ 5 = suc_le _ 4 (items-depth joint_package_data 4 joint-package-depth l.packages) in
    keys-depth (some_array string l.environments) l.snapshot (array_of joint_package_data l.packages) (array-depth string 4 (text-depth 4) l.environments) packages
