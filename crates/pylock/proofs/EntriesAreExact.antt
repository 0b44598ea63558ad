-- Data that are read as the entries of a lock are the data of those entries.
use Rattle.std.proofs.Common.{◌≡◌, ℕ, List, [], ◌∷◌, codes, Option, Some, option_and_then, Result, Ok, Err, pos, refl, sym, ap, ◌∙◌, inl, inr}
use Rattle.std.proofs.lemmas.Bool.{cases_Bool}
use Rattle.std.proofs.lemmas.Slice.Eq.{bytes_eq-Decides}
use Rattle.std.specs.Option.{option_map}
use Rattle.std.specs.Str.{bytes_eq}
use Rattle.toml.specs.Data.{Data, string, integer, array, table, Members, no_members, as_array, as_str, get_member}
use Rattle.distributions.specs.declared.file.DistributionFile.{DistributionFile}
use Rattle.pylock.specs.Flaws.{found}
use Rattle.pylock.specs.Forms.{after, each, optionally, size_at, some_each, table_with, text_at, text_of}
use Rattle.pep440.specs.Canonical.{canonical}
use Rattle.pep440.specs.Tied.Reading.{version_of}
use Rattle.pep440.specs.Version.{VersionParts}
use Rattle.pep440.specs.declared.fault.Fault.{Fault as VersionFault}
use Rattle.pylock.specs.Locks.{are_entries}
use Rattle.markers.specs.Names.{is_normal}
use Rattle.pylock.specs.Packages.{EntryParts, entry_of, is_package}
use Rattle.pylock.specs.CanonicalTexts.{canonical_version, if_canonical, normal_name}
use Rattle.pylock.specs.LockOfTable.{dependency_in, entries_in, file_in, in_order, lock_keys, package_in, package_keys}
use Rattle.pylock.specs.Tables.{array_of, dependency_data, file_data, file_table, only_key, optional, package_data, package_table, some_array}
use Rattle.pylock.proofs.KeyFacts.{AreDistinct, at_keys, is_at_keys}
use Rattle.pylock.proofs.FormsAreExact.{both, found-is, str-is, array-is, table-is, text-is, number-is, each-is, optional-is, some-is}

-- no key stands twice
distinct-1 : AreDistinct (codes "name" ∷ [])
unfolding after
distinct-1 = (refl, tt)

-- ---- the parts of a lock

normal-is : (text name : List ℕ) → normal_name text ≡ Ok name → text ≡ name
normal-is text name h = elim (cases_Bool (is_normal text)) [
  | inl yes1 ↦ let g = (rw yes1 at h) in cc
  | inr other ↦ absurd (let g = (rw other at h) in cc)
]

dependency-is : (d : Data) (name : List ℕ) → dependency_in d ≡ Ok name → d ≡ dependency_data name
unfolding dependency_in dependency_data
dependency-is d name h =
    let a = both (table_with (codes "name" ∷ []) d) _ name h in
    let b = both (text_at (codes "name") a.value) normal_name name a.next in
    let p = table-is (codes "name" ∷ []) d a.value a.first in
    let whole : a.value ≡ optional (codes "name") (get_member (codes "name") a.value) no_members = is_at_keys (codes "name" ∷ []) a.value distinct-1 p.1 in
    let name_is = text-is (codes "name") a.value b.value b.first in
    p.0 ∙ ap table (whole ∙ rw (name_is, normal-is b.value name b.next) refl)

distinct-file : AreDistinct (codes "hashes" ∷ codes "name" ∷ codes "size" ∷ codes "url" ∷ [])
unfolding after
distinct-file = (refl, (refl, (refl, (refl, tt))))

distinct-digest : AreDistinct (codes "sha256" ∷ [])
unfolding after
distinct-digest = (refl, tt)

pub distinct-tool : AreDistinct (codes "reqlock" ∷ [])
unfolding after
distinct-tool = (refl, tt)

pub distinct-snapshot : AreDistinct (codes "snapshot" ∷ [])
unfolding after
distinct-snapshot = (refl, tt)

distinct-package : AreDistinct package_keys
unfolding after
distinct-package = (refl, (refl, (refl, (refl, (refl, (refl, tt))))))

pub distinct-lock : AreDistinct lock_keys
unfolding after
distinct-lock = (refl, (refl, (refl, (refl, (refl, tt)))))

-- a table of one key that has to be there
pub one-key : (key : List ℕ) (d value : Data) (ms : Members) → AreDistinct (key ∷ []) → table_with (key ∷ []) d ≡ Ok ms → get_member key ms ≡ Some value → d ≡ only_key key value
one-key key d value ms distinct h is =
    let p = table-is (key ∷ []) d ms h in
    p.0 ∙ ap table (is_at_keys (key ∷ []) ms distinct p.1 ∙ rw is refl)

keys-file : (ms : Members) (hashes : Data) (name url sha256 : List ℕ) (size : ℕ) → get_member (codes "hashes") ms ≡ Some hashes → hashes ≡ only_key (codes "sha256") (string sha256)
    → get_member (codes "name") ms ≡ Some (string name) → get_member (codes "size") ms ≡ Some (integer (pos size)) → get_member (codes "url") ms ≡ Some (string url)
    → at_keys (codes "hashes" ∷ codes "name" ∷ codes "size" ∷ codes "url" ∷ []) ms ≡ file_table (record { name = name; url = url; size = size; sha256 = sha256 })
keys-file ms hashes name url sha256 size h1 is h2 h3 h4 = rw (h1, is, h2, h3, h4) refl

file-is : (d : Data) (f : DistributionFile) → file_in d ≡ Ok f → d ≡ file_data f
unfolding file_in file_data
file-is d f h =
    let a = both (table_with (codes "hashes" ∷ codes "name" ∷ codes "size" ∷ codes "url" ∷ []) d) _ f h in
    let ms = a.value in
    let b = both (found (get_member (codes "hashes") ms)) _ f a.next in
    let c = both (table_with (codes "sha256" ∷ []) b.value) _ f b.next in
    let s = both (text_at (codes "sha256") c.value) _ f c.next in
    let n = both (text_at (codes "name") ms) _ f s.next in
    let z = both (size_at (codes "size") ms) _ f n.next in
    let u = both (text_at (codes "url") ms) _ f z.next in
    let e : record { name = n.value; url = u.value; size = z.value; sha256 = s.value } ≡ f = let t = u.next in cc in
    let p = table-is (codes "hashes" ∷ codes "name" ∷ codes "size" ∷ codes "url" ∷ []) d ms a.first in
    let hashes = one-key (codes "sha256") b.value (string s.value) c.value distinct-digest c.first (text-is (codes "sha256") c.value s.value s.first) in
    let whole = is_at_keys (codes "hashes" ∷ codes "name" ∷ codes "size" ∷ codes "url" ∷ []) ms distinct-file p.1 in
    let known = keys-file ms b.value n.value u.value s.value z.value (found-is (get_member (codes "hashes") ms) b.value b.first) hashes (text-is (codes "name") ms n.value n.first) (number-is (codes "size") ms z.value z.first) (text-is (codes "url") ms u.value u.first) in
    p.0 ∙ ap table (whole ∙ known) ∙ ap file_data e

canonical-is : (text : List ℕ) (r : Result VersionParts VersionFault) (v : VersionParts) → if_canonical text r ≡ Ok v → text ≡ canonical v
canonical-is text (Err e) v h = absurd cc
canonical-is text (Ok w) v h = elim (cases_Bool (bytes_eq (canonical w) text)) [
  | inl same ↦
      let g : Ok w ≡ Ok v = (rw same at h) in
      let e : w ≡ v = cc in
      sym ((bytes_eq-Decides (canonical w) text).0 same) ∙ ap canonical e
  | inr other ↦ absurd (let g = (rw other at h) in cc)
]

entry-is : (q p : EntryParts) → entry_of q ≡ Some p → q ≡ p
entry-is q p h = elim (cases_Bool (is_package q)) [
  | inl good ↦ let g : Some q ≡ Some p = (rw good at h) in cc
  | inr bad ↦ absurd (let g = (rw bad at h) in cc)
]

text_of-is : (d : Data) (t : List ℕ) → text_of d ≡ Ok t → d ≡ string t
text_of-is d t h = let e : Some d ≡ Some (string t) = str-is (Some d) t (found-is (as_str d) t h) in cc

keys-package : (ms : Members) (p : EntryParts) → get_member (codes "dependencies") ms ≡ some_array dependency_data p.dependencies → get_member (codes "name") ms ≡ Some (string p.name)
    → get_member (codes "requires-python") ms ≡ option_map string p.requires_python → get_member (codes "sdist") ms ≡ option_map file_data p.sdist
    → get_member (codes "version") ms ≡ Some (string (canonical p.version)) → get_member (codes "wheels") ms ≡ some_array file_data p.wheels
    → at_keys package_keys ms ≡ package_table p
keys-package ms p h1 h2 h3 h4 h5 h6 = rw (h1, h2, h3, h4, h5, h6) refl

package-is : (d : Data) (p : EntryParts) → package_in d ≡ Ok p → d ≡ package_data p
unfolding package_in package_data
package-is d p h =
    let a = both (table_with package_keys d) _ p h in
    let ms = a.value in
    let o1 = both (some_each dependency_in (get_member (codes "dependencies") ms)) _ p a.next in
    let o2 = both (text_at (codes "name") ms) _ p o1.next in
    let n = both (normal_name o2.value) _ p o2.next in
    let o3 = both (optionally text_of (get_member (codes "requires-python") ms)) _ p n.next in
    let o4 = both (optionally file_in (get_member (codes "sdist") ms)) _ p o3.next in
    let o5 = both (text_at (codes "version") ms) _ p o4.next in
    let v = both (canonical_version o5.value) _ p o5.next in
    let o6 = both (some_each file_in (get_member (codes "wheels") ms)) _ p v.next in
    let q : EntryParts = record { name = n.value; version = v.value; requires_python = o3.value; dependencies = o1.value; sdist = o4.value; wheels = o6.value } in
    let e : q ≡ p = entry-is q p (found-is (entry_of q) p o6.next) in
    let t = table-is package_keys d ms a.first in
    let whole = is_at_keys package_keys ms distinct-package t.1 in
    let known = keys-package ms q
    (some-is dependency_data dependency_in dependency-is (get_member (codes "dependencies") ms) o1.value o1.first)
    (text-is (codes "name") ms o2.value o2.first ∙ ap (λ t. Some (string t)) (normal-is o2.value n.value n.first))
    (optional-is string text_of text_of-is (get_member (codes "requires-python") ms) o3.value o3.first)
    (optional-is file_data file_in file-is (get_member (codes "sdist") ms) o4.value o4.first)
    (text-is (codes "version") ms o5.value o5.first ∙ ap (λ t. Some (string t)) (canonical-is o5.value (version_of o5.value) v.value v.first))
    (some-is file_data file_in file-is (get_member (codes "wheels") ms) o6.value o6.first) in
    t.0 ∙ ap table (whole ∙ known) ∙ ap (λ r. table (package_table r)) e

in_order-is : (qs ps : List EntryParts) → in_order qs ≡ Ok ps → qs ≡ ps
in_order-is qs ps h = elim (cases_Bool (are_entries qs)) [
  | inl good ↦ let g : Ok qs ≡ Ok ps = (rw good at h) in cc
  | inr bad ↦ absurd (let g = (rw bad at h) in cc)
]

pub entries-is : (o : Option Data) (ps : List EntryParts) → entries_in o ≡ Ok ps → o ≡ Some (array_of package_data ps)
unfolding entries_in
entries-is o ps h =
    let a = both (found (option_and_then as_array o)) _ ps h in
    let b = both (each package_in a.value) in_order ps a.next in
    let e = in_order-is b.value ps b.next in
    array-is o a.value (found-is (option_and_then as_array o) a.value a.first)
    ∙ ap (λ ds. Some (array ds)) (each-is package_data package_in package-is a.value b.value b.first)
    ∙ ap (λ qs. Some (array_of package_data qs)) e
