-- Names that are held, and the releases whose versions are candidates.
use Rattle.std.proofs.Common.{◌≡◌, ◌&&◌, ℕ, Bool, true, false, List, Some, None, find, option_to_list, refl}
use Rattle.std.specs.BTreeMap.{is_at}
use Rattle.std.specs.Cmp.Lexicographic.{slice_cmp}
use Rattle.std.specs.Map.{lookup}
use Rattle.std.specs.Ordering.{nat_cmp}
use Rattle.pep440.specs.Version.{VersionParts}
use Rattle.problems.specs.Admission.{has_version}
use Rattle.problems.specs.Problem.{ProblemParts, releases_on}
use Rattle.problems.specs.Rules.{is_held}
use Rattle.problems.specs.Tied.Eligible.{eligible}
use Rattle.problems.proofs.Closing.{lookup-get}

and-true : (b : Bool) → b ≡ (b && true)
and-true true = refl
and-true false = refl

and-false : (b : Bool) → false ≡ (b && false)
and-false true = refl
and-false false = refl

-- a version is kept
pub held-some : (given : ProblemParts) (name : List ℕ) (version : VersionParts) → lookup (is_at (slice_cmp nat_cmp name)) given.kept ≡ Some version → given.only_kept ≡ is_held given name
held-some given name version some = rw (lookup-get name given.kept, some) (and-true given.only_kept)

-- none is
pub held-none : (given : ProblemParts) (name : List ℕ) → lookup (is_at (slice_cmp nat_cmp name)) given.kept ≡ None → false ≡ is_held given name
held-none given name none = rw (lookup-get name given.kept, none) (and-false given.only_kept)

-- no other counts beside the one that is kept
pub eligible-held : (given : ProblemParts) (name : List ℕ) (version : VersionParts) → given.only_kept ≡ true → lookup (is_at (slice_cmp nat_cmp name)) given.kept ≡ Some version
    → option_to_list (find (has_version version) (releases_on given name)) ≡ eligible given name
eligible-held given name version only some = rw (lookup-get name given.kept, only, some) refl

-- none is kept
pub eligible-free : (given : ProblemParts) (name : List ℕ) → given.only_kept ≡ true → lookup (is_at (slice_cmp nat_cmp name)) given.kept ≡ None → releases_on given name ≡ eligible given name
eligible-free given name only none = rw (lookup-get name given.kept, only, none) refl
