-- Targets after a change by which some come, go or get another environment, name by name.
-- Tied to `ChangesTargets` by the contracts of `Change::apply` and `Change::carry`; need not be read.
use Rattle.std.specs.Prelude.{◌≡◌, ◌≢◌, ℕ, List, [], ◌++◌, find, map, Option, Some, None, IfSome}
use Rattle.std.specs.List.{AllByRecursion, flat_map}
use Rattle.std.specs.Option.{option_to_list}
use Rattle.std.specs.Str.{bytes_eq}
use Rattle.markers.specs.Environment.{Texts, marker_text}
use Rattle.pylock.specs.Packages.{EntryParts}
use Rattle.states.specs.Names.{with_names}
use Rattle.states.specs.declared.target.Target.{Target}
use Rattle.changes.specs.Changes.{ChangeParts, ChangesNames, ChangesTargetOn, ChangesTargets, changes_on, entries_in, environment_in, target_on}
use Rattle.changes.specs.Tied.ExchangedEntries.{carried_entries}
use Rattle.changes.specs.declared.change.parts.EntryChange.{EntryChange}
use Rattle.changes.specs.declared.change.parts.TargetChange.{TargetChange}

-- a target has this name and this digest, and its lock names its own environment
pub record IsBound (digest name : List ℕ) (target : Target) : Type 0 where
  pub name_is : target.name ≡ name
  pub digest_is : target.lock.snapshot ≡ digest
  pub named : target.lock.environment ≡ marker_text target.environment

-- what there is of a target has these parts
pub record IsOfParts (name : List ℕ) (environment : Option Texts) (digest : List ℕ) (entries : List EntryParts) (target : Option Target) : Type 0 where
  pub environment_is : environment_in target ≡ environment
  pub entries_are : entries_in target ≡ entries
  pub bound : IfSome target (IsBound digest name)

-- this is what becomes of the target of a name, where locks get this digest
pub record Becomes (change : ChangeParts) (digest : List ℕ) (olds : List Target) (name : List ℕ) (new : Option Target) : Type 0 where
  pub parts : ChangesTargetOn change name (target_on olds name) new
  pub bound : IfSome new (IsBound digest name)

-- nothing can become of the target of some name
abbrev pub CannotBecome : ChangeParts → List ℕ → List Target → Type 0
CannotBecome change digest olds = (name : List ℕ) × ((new : Option Target) → Becomes change digest olds name new → ⊥)

-- ---- as a function

-- the environment of a name after its change
abbrev pub carried_environment : Option TargetChange → Option Texts → Option Texts
carried_environment None old = old
carried_environment (Some change) old = change.new

-- the target of these parts, if there is an environment
abbrev pub target_of : List ℕ → List ℕ → List EntryParts → Option Texts → Option Target
target_of name digest entries None = None
target_of name digest entries (Some environment) = Some (record {
  name = name;
  environment = environment;
  lock = record { environment = marker_text environment; snapshot = digest; entries = entries };
})

-- the target of a name after a change, where locks get this digest
abbrev pub carried_on : ChangeParts → List ℕ → List Target → List ℕ → Option Target
carried_on change digest olds name =
    target_of name digest (carried_entries (changes_on name change.entries) (entries_in (target_on olds name)))
    (carried_environment (find (λ t. bytes_eq name t.name) change.targets) (environment_in (target_on olds name)))

-- what there is on names, in their order
abbrev pub on_names : {X : Type 0} → (List ℕ → Option X) → List (List ℕ) → List X
on_names on names = flat_map (λ name. option_to_list (on name)) names

-- the names of targets and of those of a change, each once and in order
abbrev pub names_met : ChangeParts → List Target → List (List ℕ)
names_met change olds =
    with_names (with_names [] (map (λ (t : Target). t.name) olds ++ map (λ (t : TargetChange). t.name) change.targets)) (map (λ (c : EntryChange). c.target) change.entries)

-- these are made: what becomes of the targets of the names
pub record AreMade (change : ChangeParts) (digest : List ℕ) (olds : List Target) (names : List (List ℕ)) (made : List Target) : Type 0 where
  pub made_are : made ≡ on_names (carried_on change digest olds) names
  pub each : AllByRecursion (λ name. Becomes change digest olds name (carried_on change digest olds name)) names

-- ---- none

-- no targets are made, name by name; of a state there is one at least
abbrev pub NoneNamed : ChangeParts → List Target → Type 0
NoneNamed change olds = (news : List Target) → news ≢ [] → ChangesNames change olds news → ⊥

-- no targets are made
abbrev pub NoTargets : ChangeParts → List Target → Type 0
NoTargets change olds = (news : List Target) → news ≢ [] → ChangesTargets change.targets change olds news → ⊥
