use Rattle.std.proofs.Common.{◌≡◌, ◌++◌, ℕ, List, map}
use Rattle.std.specs.Cmp.Lexicographic.{slice_cmp}
use Rattle.std.specs.List.{Contains}
use Rattle.std.specs.List.Sorted.{IsStrictlySortedBy}
use Rattle.std.specs.Map.{keys_of}
use Rattle.std.specs.Option.{IsSome}
use Rattle.std.specs.Ordering.{nat_cmp}
use Rattle.pep440.specs.Version.{VersionParts}
use Rattle.pylock.specs.Packages.{EntryParts}
use Rattle.problems.specs.Admission.{release_at}
use Rattle.states.specs.Tied.Dependencies.{names_in}
use Rattle.states.specs.Tied.Entries.{AreNeeds, HasRelease, entry_for}
use Rattle.states.proofs.locks.entries.Given as goal

abbrev pub invariant-loop-name : goal.invariant-loop-name
invariant-loop-name l = record {
  made : l.lock.items ++ map (entry_for l.problem (names_in l.gathered)) l.name-iterator ≡ map (entry_for l.problem (names_in l.fn.gathered)) l.versions.entries;
  rising : IsStrictlySortedBy (slice_cmp nat_cmp) (keys_of l.name-iterator);
  released : (name : List ℕ) (version : VersionParts) → Contains l.name-iterator (name, version) → IsSome (release_at l.problem name version);
  needs : (own : List ℕ) → AreNeeds own (names_in l.gathered own);
  releases : (e : EntryParts) → Contains l.lock.items e → HasRelease l.problem e.name e.version;
}
