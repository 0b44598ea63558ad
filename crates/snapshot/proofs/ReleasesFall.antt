-- The releases of each package of an index fall.
use Rattle.std.proofs.Common.{◌≡◌, ℕ, suc, Bool, true, false, cond, List, [], ◌∷◌, Option, Some, Ok, find, ap}
use Rattle.std.specs.Prelude.{codes}
use Rattle.std.specs.List.Sorted.{IsStrictlySortedBy}
use Rattle.std.specs.Option.{option_map_or}
use Rattle.serde_json.specs.Data.{Data, Items, no_items, item}
use Rattle.serde_json.specs.Find.{as_array}
use Rattle.snapshot.specs.declared.package.Package.{Package}
use Rattle.snapshot.specs.declared.package.ReadPackage.{ReadPackage}
use Rattle.snapshot.specs.declared.package.ReadPackages.{ReadPackages}
use Rattle.snapshot.specs.declared.release.reading.ReadReleases.{ReadReleases}
use Rattle.snapshot.specs.Packages.{as_name, as_one, is_named, package_of, packages_in, packages_of, releases_of, together}
use Rattle.snapshot.specs.Tied.Places.{AllFall}
use Rattle.snapshot.specs.Releases.{newer_cmp, newest_first, release_of, releases_in, usable_of}
use Rattle.snapshot.specs.Shape.{below, each_from, field, key_path, object_of, place_path, required}
use Rattle.snapshot.proofs.FirstOfEqualsStays.{newest-sorted}
use Rattle.snapshot.proofs.SeveralSteps.{both, inside, ok-inside}

releases-fall : (name : List ℕ) (ds : Items) (r : ReadReleases) → releases_in name ds ≡ Ok r → IsStrictlySortedBy newer_cmp r.releases
unfolding releases_in
releases-fall name ds r e =
    let b = both (each_from release_of 0 ds) _ r e in
    let same : newest_first (usable_of b.first) ≡ r.releases = ap (λ (q : ReadReleases). q.releases) (ok-inside _ _ b.then) in
    rw same at (newest-sorted (usable_of b.first))

package-falls : (d : Data) (p : ReadPackage) → package_of d ≡ Ok p → IsStrictlySortedBy newer_cmp p.kept.releases
unfolding package_of
package-falls d p e =
    let object = both (object_of d) _ p e in
    let name = both (field (required as_name) (codes "name") d) _ p object.then in
    let listed = both (field (required as_array) (codes "releases") d) _ p name.then in
    let read = both (below (key_path (codes "releases")) (releases_in name.first listed.first)) _ p listed.then in
    let same : read.first.releases ≡ p.kept.releases = ap (λ (q : ReadPackage). q.kept.releases) (ok-inside _ _ read.then) in
    rw same at (releases-fall name.first listed.first read.first (inside (key_path (codes "releases")) (releases_in name.first listed.first) read.first read.is))

each-falls : (place : ℕ) (ds : Items) (ps : List ReadPackage) → each_from package_of place ds ≡ Ok ps → AllFall (together ps).packages
unfolding each_from
each-falls place no_items ps e =
    let none : [] ≡ ps = ok-inside _ _ e in
    rw (← none) tt
each-falls place (item d ds) ps e =
    let one = both (below (place_path place) (package_of d)) _ ps e in
    let rest = both (each_from package_of (suc place) ds) _ ps one.then in
    let same : one.first ∷ rest.first ≡ ps = ok-inside _ _ rest.then in
    rw (← same) (package-falls d one.first (inside (place_path place) (package_of d) one.first one.is), each-falls (suc place) ds rest.first rest.is)

in-falls : (ds : Items) (read : ReadPackages) → packages_in ds ≡ Ok read → AllFall read.packages
unfolding packages_in
in-falls ds read e =
    let all = both (each_from package_of 0 ds) _ read e in
    let same : together all.first ≡ read = ok-inside _ _ all.then in
    rw (← same) (each-falls 0 ds all.first all.is)

-- whatever a JSON value lists
pub packages-fall : (d : Data) (read : ReadPackages) → packages_of d ≡ Ok read → AllFall read.packages
unfolding packages_of
packages-fall d read e =
    let object = both (object_of d) _ read e in
    let format = both (field (required as_one) (codes "snapshot") d) _ read object.then in
    let listed = both (field (required as_array) (codes "packages") d) _ read format.then in
    in-falls listed.first read (inside (key_path (codes "packages")) (packages_in listed.first) read listed.then)

falls-by : (b : Bool) (p : Package) (later : Option Package) → IsStrictlySortedBy newer_cmp p.releases → IsStrictlySortedBy newer_cmp (option_map_or (λ p. p.releases) later [])
    → IsStrictlySortedBy newer_cmp (option_map_or (λ p. p.releases) (cond b (Some p) later) [])
falls-by true p later here rest = here
falls-by false p later here rest = rest

-- the releases of a name
pub named-fall : (name : List ℕ) (ps : List Package) → AllFall ps → IsStrictlySortedBy newer_cmp (releases_of name ps)
unfolding IsStrictlySortedBy
named-fall name [] all = tt
named-fall name (p ∷ ps) all = falls-by (is_named name p) p (find (is_named name) ps) all.0 (named-fall name ps all.1)
