-- Changes: what differs between two states, with what stood there before. All of it is reqlock's own rule.
use Rattle.std.specs.Prelude.{◌≡◌, ◌≢◌, ℕ, ◌+◌, ◌-◌, ◌^◌, ◌<◌, ◌≤◌, ◌&&◌, Bool, true, List, [], ◌∷◌, ◌++◌, find, length, map, slice_get, Option, Some, None, option_map, IfSome}
use Rattle.std.specs.Cmp.Lexicographic.{slice_cmp}
use Rattle.std.specs.List.{AllByRecursion, AllZip, Contains, filter}
use Rattle.std.specs.Option.{option_map_or}
use Rattle.std.specs.Ordering.{is_lt, nat_cmp, on, then_cmp}
use Rattle.std.specs.Str.{bytes_eq}
use Rattle.markers.specs.Environment.{Texts, marker_text}
use Rattle.std.specs.declared.cmp.Ordering.{Ordering}
use Rattle.pylock.specs.Locks.{LockParts, are_entries}
use Rattle.pylock.specs.Order.{rises}
use Rattle.pylock.specs.Packages.{EntryParts}
use Rattle.states.specs.StateParts.{StateParts, digest_of}
use Rattle.states.specs.State.{IsState, entry_on}
use Rattle.changes.specs.declared.change.parts.Splice.{Splice}
use Rattle.changes.specs.declared.change.parts.TargetChange.{TargetChange}
use Rattle.changes.specs.declared.change.parts.EntryChange.{EntryChange}
use Rattle.changes.specs.declared.change.parts.DigestChange.{DigestChange}
use Rattle.states.specs.declared.target.Target.{Target}

-- what a change holds: splices of the lines, targets that come, go or get another environment, changes of entries, and that of the
-- index's digest, where it is another
pub record ChangeParts : Type 0 where
  pub splices : List Splice
  pub targets : List TargetChange
  pub entries : List EntryChange
  pub digests : Option DigestChange

-- ---- lines

-- from one list of lines to another: up to the place of a splice, which is counted from the start of the file, lines are kept;
-- there its old lines stand, and give way to its new ones; behind both the lines go on, by what is left of the splices
pub record AtSplice (from : ℕ) (splice : Splice) (go_on : ℕ → List (List ℕ) → List (List ℕ) → Type 0) (old new : List (List ℕ)) : Type 0 where
  pub kept : List (List ℕ)
  pub old_rest : List (List ℕ)
  pub new_rest : List (List ℕ)
  pub place : splice.place ≡ from + length kept
  pub stood : old ≡ kept ++ splice.old ++ old_rest
  pub stands : new ≡ kept ++ splice.new ++ new_rest
  pub rest : go_on (splice.place + length splice.old) old_rest new_rest

-- splices lead from old lines to new ones; the first of the old lines has this place in the file
abbrev pub Splices : ℕ → List Splice → List (List ℕ) → List (List ℕ) → Type 0
Splices from [] old new = old ≡ new
Splices from (splice ∷ rest) old new = AtSplice from splice (λ place. Splices place rest) old new

-- ---- the lock of one target

-- on the name of a change the old entries have its old one, or none, and the new entries its new one, or none
abbrev pub Exchanges : List EntryParts → List EntryParts → EntryChange → Type 0
Exchanges old new change = (entry_on old change.name ≡ change.old) × (entry_on new change.name ≡ change.new)

-- changes lead from old entries to new ones: they hold on their names, each other name has the same entry in both, and names
-- rise in both
pub record ChangesEntries (changes : List EntryChange) (old new : List EntryParts) : Type 0 where
  pub changed : (change : EntryChange) → Contains changes change → Exchanges old new change
  pub others : (name : List ℕ) → ((change : EntryChange) → Contains changes change → change.name ≢ name) → entry_on new name ≡ entry_on old name
  pub old_rises : are_entries old ≡ true
  pub new_rises : are_entries new ≡ true

-- the digest stays where it doesn't change; else the old one stood there, and gives way to the new one
abbrev pub ChangesDigest : Option DigestChange → List ℕ → List ℕ → Type 0
ChangesDigest None old new = new ≡ old
ChangesDigest (Some digests) old new = (old ≡ digests.old) × (new ≡ digests.new)

-- a change leads from one lock to another, of the same environment
pub record ChangesLock (change : ChangeParts) (old new : LockParts) : Type 0 where
  pub entries : ChangesEntries change.entries old.entries new.entries
  pub digest : ChangesDigest change.digests old.snapshot new.snapshot
  pub environment : new.environment ≡ old.environment

-- ---- targets

-- the changes of the entries of a target's lock
abbrev pub changes_on : List ℕ → List EntryChange → List EntryChange
changes_on target changes = filter (λ c. bytes_eq target c.target) changes

-- what a change is for one target
abbrev pub on_target : List ℕ → ChangeParts → ChangeParts
on_target target change = record { splices = change.splices; targets = change.targets; entries = changes_on target change.entries; digests = change.digests }

-- two targets have one name and one environment
pub record IsSameTarget (old new : Target) : Type 0 where
  pub name : new.name ≡ old.name
  pub environment : new.environment ≡ old.environment

-- a change leads from a target to one of the same name and environment, and from its lock to the other's
pub record ChangesTarget (change : ChangeParts) (old new : Target) : Type 0 where
  pub same : IsSameTarget old new
  pub lock : ChangesLock (on_target old.name change) old.lock new.lock

-- a change leads from targets to others of the same names and environments, one by one; to none where an entry's target isn't there
pub record ChangesLocks (change : ChangeParts) (old new : List Target) : Type 0 where
  pub each : AllZip (ChangesTarget change) old new
  pub known : AllByRecursion (λ c. Contains (map (λ t. t.name) old) c.target) change.entries

-- ---- targets that come and go

-- the target of a name, if there is one
abbrev pub target_on : List Target → List ℕ → Option Target
target_on targets name = find (λ t. bytes_eq name t.name) targets

-- its environment, if there is one, and the entries of its lock, of which there are none where there is no target
abbrev pub environment_in : Option Target → Option Texts
environment_in target = option_map (λ (t : Target). t.environment) target

abbrev pub entries_in : Option Target → List EntryParts
entries_in target = option_map_or (λ (t : Target). t.lock.entries) target []

-- what becomes of the environment of a name: it stays where the change doesn't name it; else the old one stood there, or none, and the
-- new one takes its place, or none does
abbrev pub ChangesEnvironment : Option TargetChange → Option Texts → Option Texts → Type 0
ChangesEnvironment None old new = new ≡ old
ChangesEnvironment (Some change) old new = (old ≡ change.old) × (new ≡ change.new)

-- what becomes of the target of a name. The entries of one that comes are all put in by the change, and those of one that goes taken out
pub record ChangesTargetOn (change : ChangeParts) (name : List ℕ) (old new : Option Target) : Type 0 where
  pub environment : ChangesEnvironment (find (λ t. bytes_eq name t.name) change.targets) (environment_in old) (environment_in new)
  pub entries : ChangesEntries (changes_on name change.entries) (entries_in old) (entries_in new)

-- names of targets rise, all locks have one digest, and each names its own environment. All of it holds of every state
pub record AreTargets (targets : List Target) : Type 0 where
  pub rising : rises (map (λ t. t.name) targets) ≡ true
  pub digest : AllByRecursion (λ t. t.lock.snapshot ≡ digest_of targets) targets
  pub named : AllByRecursion (λ t. t.lock.environment ≡ marker_text t.environment) targets

-- a change leads from targets to others, name by name
pub record ChangesNames (change : ChangeParts) (old new : List Target) : Type 0 where
  pub each : (name : List ℕ) → ChangesTargetOn change name (target_on old name) (target_on new name)
  pub digest : ChangesDigest change.digests (digest_of old) (digest_of new)
  pub old_are : AreTargets old
  pub new_are : AreTargets new

-- where no target comes, goes or gets another environment, all stay where they are
abbrev pub ChangesTargets : List TargetChange → ChangeParts → List Target → List Target → Type 0
ChangesTargets [] change old new = ChangesLocks change old new
ChangesTargets (target ∷ targets) change old new = ChangesNames change old new

-- ---- states

-- a change leads from one state to another; to none where an old part doesn't stand in its place
pub record After (old : StateParts) (change : ChangeParts) (new : StateParts) : Type 0 where
  pub lines : Splices 0 change.splices old.lines new.lines
  pub targets : ChangesTargets change.targets change old.targets new.targets

-- a change leads from a state to another, for which all holds that holds of every state
abbrev pub Leads : StateParts → ChangeParts → StateParts → Type 0
Leads old change new = After old change new × IsState new

-- a change applies to no state here
abbrev pub LeadsNowhere : StateParts → ChangeParts → Type 0
LeadsNowhere old change = (new : StateParts) → Leads old change new → ⊥

-- ---- minimal changes

-- lines begin and end otherwise than those in whose place they stand; where there are none, nothing stands first and last
pub record IsExchange (splice : Splice) : Type 0 where
  pub first : slice_get splice.old 0 ≢ slice_get splice.new 0
  pub last : slice_get splice.old (length splice.old - 1) ≢ slice_get splice.new (length splice.new - 1)

-- splices rise from this place on, with a line at least that is kept between two
abbrev pub RiseFrom : ℕ → List Splice → Type 0
RiseFrom from [] = Unit {0}
RiseFrom from (splice ∷ rest) = (from ≤ splice.place) × RiseFrom (splice.place + length splice.old + 1) rest

-- what is there of an entry is on the name
abbrev pub IsOn : List ℕ → Option EntryParts → Type 0
IsOn name entry = IfSome entry (λ e. e.name ≡ name)

-- the entry of a name becomes another, or one is put in, or taken out
pub record IsEntryChange (change : EntryChange) : Type 0 where
  pub old_name : IsOn change.name change.old
  pub new_name : IsOn change.name change.new
  pub other : change.old ≢ change.new

-- the splices that lead back: old and new lines are swapped, and each place is moved by the lines that the splices before it
-- add and take
abbrev pub back : ℕ → ℕ → List Splice → List Splice
back added taken [] = []
back added taken (splice ∷ rest) =
    record { place = splice.place + added - taken; old = splice.new; new = splice.old } ∷ back (added + length splice.new) (taken + length splice.old) rest

-- the change of a target back, that of an entry, and that of the digest: old and new are swapped
abbrev pub target_back : TargetChange → TargetChange
target_back change = record { name = change.name; old = change.new; new = change.old }

abbrev pub entry_back : EntryChange → EntryChange
entry_back change = record { target = change.target; name = change.name; old = change.new; new = change.old }

abbrev pub digest_back : DigestChange → DigestChange
digest_back digests = record { old = digests.new; new = digests.old }

-- the change back, from the new state to the old one
abbrev pub inverse : ChangeParts → ChangeParts
inverse change = record {
  splices = back 0 0 change.splices;
  targets = map target_back change.targets;
  entries = map entry_back change.entries;
  digests = option_map digest_back change.digests;
}

-- each place fits a number of 64 bits
abbrev pub PlacesFit : List Splice → Type 0
PlacesFit splices = AllByRecursion (λ splice. splice.place < 2 ^ 64) splices

-- the splices of a minimal change: as short as can be, rising with a kept line between two; places fit, as they stand and as the
-- inverse moves them
pub record AreSplices (splices : List Splice) : Type 0 where
  pub exchanges : AllByRecursion IsExchange splices
  pub apart : RiseFrom 0 splices
  pub places : PlacesFit splices
  pub places_back : PlacesFit (back 0 0 splices)

-- the changes of targets of a minimal change: names rise, and each old environment, or none, becomes another, or none
pub record AreTargetChanges (changes : List TargetChange) : Type 0 where
  pub rising : rises (map (λ change. change.name) changes) ≡ true
  pub each : AllByRecursion (λ change. change.old ≢ change.new) changes

-- the changes of the entries of one lock, in a minimal change: names rise, and each entry becomes another
pub record AreEntryChanges (changes : List EntryChange) : Type 0 where
  pub names : rises (map (λ change. change.name) changes) ≡ true
  pub each : AllByRecursion IsEntryChange changes

-- the order of changes of entries: by the names of their targets, then by their own
abbrev pub entry_change_cmp : EntryChange → EntryChange → Ordering
entry_change_cmp = then_cmp (on (λ c. c.target) (slice_cmp nat_cmp)) (on (λ c. c.name) (slice_cmp nat_cmp))

-- each change of an entry comes before the next one
unfoldable pub rise_by_target : List EntryChange → Bool
rise_by_target [] = true
rise_by_target (change ∷ []) = true
rise_by_target (change ∷ next ∷ rest) = is_lt (entry_change_cmp change next) && rise_by_target (next ∷ rest)

-- those of all locks: pairs of target and name rise, and each entry becomes another
pub record AreMinimalChanges (changes : List EntryChange) : Type 0 where
  pub rising : rise_by_target changes ≡ true
  pub each : AllByRecursion IsEntryChange changes

-- nothing in a change could be left out
pub record IsMinimal (change : ChangeParts) : Type 0 where
  pub splices : AreSplices change.splices
  pub targets : AreTargetChanges change.targets
  pub entries : AreMinimalChanges change.entries
  pub digests : IfSome change.digests (λ d. d.old ≢ d.new)

-- nothing is in a change
pub record IsEmpty (change : ChangeParts) : Type 0 where
  pub splices : change.splices ≡ []
  pub targets : change.targets ≡ []
  pub entries : change.entries ≡ []
  pub digests : change.digests ≡ None

-- ---- laws

-- a minimal change that leads from one state to another has a minimal one back, which leads from there to the first
abbrev pub AChangeCanBeTakenBack : Type 0
AChangeCanBeTakenBack = (change : ChangeParts) (old new : StateParts) → IsMinimal change → After old change new → IsMinimal (inverse change) × After new (inverse change) old

-- back and back again is the change itself
abbrev pub BackAndBackIsTheChange : Type 0
BackAndBackIsTheChange = (change : ChangeParts) → IsMinimal change → inverse (inverse change) ≡ change
