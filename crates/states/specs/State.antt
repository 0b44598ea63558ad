-- What holds of every state. All of it is reqlock's own rule.
use Rattle.std.specs.Prelude.{◌≡◌, ◌≢◌, ◌⊎◌, ℕ, Bool, true, false, List, [], ◌∷◌, find, map, Option, Some, None, Result, Ok, Err}
use Rattle.std.specs.List.{AllByRecursion, Contains, concat}
use Rattle.std.specs.Option.{option_map_or}
use Rattle.std.specs.Str.{bytes_eq}
use Rattle.markers.specs.Comparisons.{version_read}
use Rattle.markers.specs.Environment.{Texts, marker_text, text_of}
use Rattle.markers.specs.declared.variable.Variable.TheVariants.{PythonFullVersion}
use Rattle.pep440.specs.Matching.{matches}
use Rattle.pep440.specs.Tied.Sets.{set_of}
use Rattle.pep440.specs.Version.{VersionParts}
use Rattle.pep440.specs.declared.fault.Fault.{Fault}
use Rattle.pep440.specs.declared.specifier.Clause.{Clause}
use Rattle.pep508.specs.Requirement.{RequirementParts, file_of}
use Rattle.problems.specs.Problem.{requirements}
use Rattle.pylock.specs.Locks.{IsLock, LockParts}
use Rattle.pylock.specs.Packages.{EntryParts}
use Rattle.pylock.specs.Order.{rises}
use Rattle.states.specs.StateParts.{StateParts, digest_of}
use Rattle.states.specs.declared.target.Target.{Target}

-- whether a set that was read has a version that was read
abbrev pub has_version : Result (List Clause) Fault → Option VersionParts → Bool
has_version (Ok clauses) (Some version) = matches clauses version
has_version (Ok clauses) None = false
has_version (Err fault) version = false

-- whether a text of specifiers has the full version of the environment's Python
abbrev pub is_for_python : Texts → List ℕ → Bool
is_for_python environment text = has_version (set_of text) (version_read (text_of environment PythonFullVersion))

-- an entry meets a requirement: it is on its name, the clauses match its version, and it runs on the environment's Python
pub record Meets (environment : Texts) (wanted : RequirementParts) (e : EntryParts) : Type 0 where
  pub named : e.name ≡ wanted.name
  pub matched : matches wanted.clauses e.version ≡ true
  pub runs : option_map_or (is_for_python environment) e.requires_python true ≡ true

-- the entry of a name, if there is one
abbrev pub entry_on : List EntryParts → List ℕ → Option EntryParts
entry_on entries name = find (λ e. bytes_eq name e.name) entries

-- an entry of the name
pub record IsAnEntry (entries : List EntryParts) (name : List ℕ) : Type 0 where
  pub entry : EntryParts
  pub there : Contains entries entry
  pub named : entry.name ≡ name

-- the names that active lines lead to, through names of dependencies
pub data Reached (active : List RequirementParts) (entries : List EntryParts) : List ℕ → Type 0 where
  by_line : (wanted : RequirementParts) → Contains active wanted → Reached active entries wanted.name
  by_entry : (e : EntryParts) (name : List ℕ) → Contains entries e → Reached active entries e.name → Contains e.dependencies name → Reached active entries name

-- an entry that meets a requirement
abbrev pub IsMet : Texts → List EntryParts → RequirementParts → Type 0
IsMet environment entries wanted = (e : EntryParts) × Contains entries e × Meets environment wanted e

-- a lock is one for lines in an environment: it is lawful, each active line is met by an entry, each name of a dependency is an
-- entry's, each entry is reached from an active line, and it names the environment
pub record IsLockFor (lines : List (List ℕ)) (environment : Texts) (lock : LockParts) : Type 0 where
  pub lawful : IsLock lock
  pub met : (wanted : RequirementParts) → Contains (requirements environment lines) wanted → IsMet environment lock.entries wanted
  pub closed : (e : EntryParts) (name : List ℕ) → Contains lock.entries e → Contains e.dependencies name → IsAnEntry lock.entries name
  pub reached : (e : EntryParts) → Contains lock.entries e → Reached (requirements environment lines) lock.entries e.name
  pub named : lock.environment ≡ marker_text environment

-- the lines joined read as these lines; there is a target at least, names rise, each lock is one for the lines in its environment,
-- and all have one digest
pub record IsState (state : StateParts) : Type 0 where
  pub lines : file_of (concat state.lines) ≡ Ok state.lines
  pub some : state.targets ≢ []
  pub rising : rises (map (λ t. t.name) state.targets) ≡ true
  pub locks : AllByRecursion (λ t. IsLockFor state.lines t.environment t.lock) state.targets
  pub digest : AllByRecursion (λ t. t.lock.snapshot ≡ digest_of state.targets) state.targets

-- the state has these lines, these names and environments, and these locks, each in its order
pub record IsOfParts (lines : List (List ℕ)) (targets : List (List ℕ × Texts)) (locks : List LockParts) (state : StateParts) : Type 0 where
  pub lines_are : state.lines ≡ lines
  pub targets_are : map (λ t. (t.name, t.environment)) state.targets ≡ targets
  pub locks_are : map (λ t. t.lock) state.targets ≡ locks

-- a target fits lines: its lock is one for them in its environment, and has the digest of the first lock
abbrev pub Fits : List (List ℕ) → List ℕ → Target → Type 0
Fits lines digest target = IsLockFor lines target.environment target.lock × (target.lock.snapshot ≡ digest)

-- the name is that of the first target that doesn't fit
abbrev pub IsFirstUnfit : List (List ℕ) → List ℕ → List Target → List ℕ → Type 0
IsFirstUnfit lines digest [] name = ⊥
IsFirstUnfit lines digest (target ∷ targets) name =
    (Fits lines digest target × IsFirstUnfit lines digest targets name) ⊎ ((Fits lines digest target → ⊥) × (name ≡ target.name))
