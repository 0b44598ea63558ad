-- Items put one after another into a list that is in order: of equal items the first stays.
use Rattle.std.proofs.Common.{◌≡◌, List, [], find}
use Rattle.std.specs.List.Sorted.{IsStrictlySortedBy}
use Rattle.distributions.specs.declared.file.DistributionFile.{DistributionFile}
use Rattle.snapshot.specs.Files.{has_name_of, listed_wheels, name_cmp, wheels_of}
use Rattle.snapshot.specs.Release.{Release}
use Rattle.snapshot.specs.Releases.{has_version_of, newer_cmp, newest_first}
use Rattle.snapshot.specs.Tied.OrderLaws.{name_total, newer_total}
use Rattle.lists.proofs.SortedInserts.{find-inserted, sorted-inserted}

-- the newest release is first
pub newest-sorted : (releases : List Release) → IsStrictlySortedBy newer_cmp (newest_first releases)
unfolding IsStrictlySortedBy
newest-sorted releases = sorted-inserted newer_total [] releases tt

-- the wheels rise by name
pub wheels-sorted : (files : List DistributionFile) → IsStrictlySortedBy name_cmp (wheels_of files)
unfolding IsStrictlySortedBy
wheels-sorted files = sorted-inserted name_total [] (listed_wheels files) tt

-- ---- the first of equal items stays

-- of equal releases the first that is listed stays
pub newest-first : (r : Release) (releases : List Release) → find (has_version_of r) (newest_first releases) ≡ find (has_version_of r) releases
unfolding IsStrictlySortedBy
newest-first r releases = find-inserted newer_total r [] releases tt

-- of wheels of one name the first that is listed stays
pub wheels-first : (f : DistributionFile) (files : List DistributionFile) → find (has_name_of f) (wheels_of files) ≡ find (has_name_of f) (listed_wheels files)
unfolding IsStrictlySortedBy
wheels-first f files = find-inserted name_total f [] (listed_wheels files) tt
