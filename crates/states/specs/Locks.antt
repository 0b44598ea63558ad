-- The lock of a problem: its best solution, with what each package asks of Python, which packages it needs, and its files.
-- All of it is reqlock's own rule.
use Rattle.std.specs.Prelude.{◌≡◌, ◌≢◌, ◌↔◌, ℕ, Bool, true, false, not, List, [], map, Option, Some, None, option_map}
use Rattle.std.specs.Cmp.Lexicographic.{slice_cmp}
use Rattle.std.specs.List.{AllZip, Contains}
use Rattle.std.specs.List.Sorted.{IsStrictlySortedBy}
use Rattle.std.specs.Option.{option_and_then, option_map_or}
use Rattle.std.specs.Ordering.{nat_cmp}
use Rattle.distributions.specs.declared.file.DistributionFile.{DistributionFile}
use Rattle.markers.specs.Environment.{Texts, marker_text}
use Rattle.pep440.specs.Version.{VersionParts}
use Rattle.pep508.specs.Requirement.{RequirementParts}
use Rattle.pylock.specs.Locks.{LockParts}
use Rattle.pylock.specs.Packages.{EntryParts}
use Rattle.search.specs.Solutions.{HasNoSolution, IsBest, Needed}
use Rattle.snapshot.specs.Release.{Release}
use Rattle.problems.specs.Admission.{release_at}
use Rattle.problems.specs.Problem.{ProblemParts, requirements}
use Rattle.problems.specs.Rules.{rules_of, same_version, wants}
use Rattle.problems.specs.Solutions.{version_for}
use Rattle.problems.specs.declared.node.Node.{Node}
use Rattle.states.specs.Pool.{PoolParts}
use Rattle.states.specs.StateParts.{StateParts}
use Rattle.states.specs.declared.locks.Unlocked.{Unlocked}
use Rattle.states.specs.declared.target.Target.{Target}

-- the names of a lock, each with its version: what a later lock keeps
abbrev pub versions_of : List EntryParts → List (List ℕ × VersionParts)
versions_of entries = map (λ e. (e.name, e.version)) entries

-- a version is locked, and it isn't the one that is asked about, if there is one
abbrev pub is_other : Option VersionParts → Option VersionParts → Bool
is_other asked None = false
is_other None (Some locked) = true
is_other (Some version) (Some locked) = not (same_version version locked)

-- a target locks a name, and not at this version, if one is given
abbrev pub locks_another : Target → List ℕ → Option VersionParts → Bool
locks_another target name version = is_other version (version_for (versions_of target.lock.entries) name)

-- what a release asks of Python, as the index has it
abbrev pub python_text : Option Release → Option (List ℕ)
python_text None = None
python_text (Some release) = option_map (λ python. python.text) release.requires_python

-- the source distribution of a release
abbrev pub sdist_of : Option Release → Option DistributionFile
sdist_of release = option_and_then (λ r. r.sdist) release

-- the wheels of a release
abbrev pub wheels_of : Option Release → List DistributionFile
wheels_of release = option_map_or (λ r. r.wheels) release []

-- a dependency of a package, on another name, counts at a needed node of the package
pub record IsDependency (given : ProblemParts) (chosen : List ℕ → Option VersionParts) (own name : List ℕ) : Type 0 where
  pub other : name ≢ own
  pub node : Node
  pub on : node.name ≡ own
  pub needed : Needed (rules_of given) chosen node
  pub version : VersionParts
  pub picked : chosen own ≡ Some version
  pub wanted : RequirementParts
  pub counts : Contains (wants given node version) wanted
  pub named : wanted.name ≡ name

-- what is locked for a name: its release's text and files, and the names of its dependencies, which rise by their bytes
pub record IsEntry (given : ProblemParts) (chosen : List ℕ → Option VersionParts) (e : EntryParts) : Type 0 where
  pub python : e.requires_python ≡ python_text (release_at given e.name e.version)
  pub sdist : e.sdist ≡ sdist_of (release_at given e.name e.version)
  pub wheels : e.wheels ≡ wheels_of (release_at given e.name e.version)
  pub rising : IsStrictlySortedBy (slice_cmp nat_cmp) e.dependencies
  pub dependencies : (name : List ℕ) → Contains e.dependencies name ↔ IsDependency given chosen e.name name

-- the lock: it names its environment and its index; names rise by their bytes, their versions are the best solution, and each
-- entry is that of its release
pub record IsLockOf (given : ProblemParts) (lock : LockParts) : Type 0 where
  pub environment : lock.environment ≡ marker_text given.environment
  pub snapshot : lock.snapshot ≡ given.index.digest
  pub rising : IsStrictlySortedBy (slice_cmp nat_cmp) (map (λ e. e.name) lock.entries)
  pub best : IsBest (rules_of given) (version_for (versions_of lock.entries))
  pub entries : (e : EntryParts) → Contains lock.entries e → IsEntry given (version_for (versions_of lock.entries)) e

-- ---- states

-- the problem of lines in an environment over an index, with the versions that are kept, alone or before others
abbrev pub given_of : List (List ℕ) → Texts → PoolParts → List (List ℕ × VersionParts) → ProblemParts
given_of lines environment pool kept =
    record { active = requirements environment lines; environment = environment; index = pool.index; kept = kept; only_kept = pool.only_kept }

-- the problem of a target before it is locked, under its name
abbrev pub given_for : List (List ℕ) → PoolParts → Unlocked → List ℕ × ProblemParts
given_for lines pool unlocked = (unlocked.name, given_of lines unlocked.environment pool unlocked.kept.entries)

-- the target of a name and a problem, with the problem's lock
pub record IsTargetLocked (given : List ℕ × ProblemParts) (target : Target) : Type 0 where
  pub name : target.name ≡ given.0
  pub environment : target.environment ≡ given.1.environment
  pub lock : IsLockOf given.1 target.lock

-- the state of these lines with a target for each name and problem, in their order
pub record IsLocked (givens : List (List ℕ × ProblemParts)) (lines : List (List ℕ)) (state : StateParts) : Type 0 where
  pub lines_are : state.lines ≡ lines
  pub targets : AllZip IsTargetLocked givens state.targets

-- a problem among these has no solution
abbrev pub HasUnsolved : List (List ℕ × ProblemParts) → Type 0
HasUnsolved givens = (given : List ℕ × ProblemParts) × Contains givens given × HasNoSolution (rules_of given.1)
