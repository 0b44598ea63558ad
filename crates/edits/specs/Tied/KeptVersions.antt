-- Targets before they are locked, as they are put together.
-- Tied to `EditResult` and `InitResult` by the contracts of `edit` and `init`; need not be read.
use Rattle.std.specs.Prelude.{ℕ, Bool, true, List, [], map, fold, if◌then◌else◌}
use Rattle.std.specs.BTreeMap.{insert_entry}
use Rattle.std.specs.Cmp.Lexicographic.{slice_cmp}
use Rattle.std.specs.Option.{option_map_or}
use Rattle.std.specs.Ordering.{is_lt, nat_cmp}
use Rattle.markers.specs.Environment.{Texts}
use Rattle.markers.specs.Names.{normal_of}
use Rattle.pep440.specs.Version.{VersionParts}
use Rattle.snapshot.specs.Packages.{Index}
use Rattle.problems.specs.Solutions.{version_for}
use Rattle.states.specs.declared.locks.Unlocked.{Unlocked}
use Rattle.states.specs.declared.target.Target.{Target}
use Rattle.edits.specs.Edits.{kept_pins, kept_retargeted}
use Rattle.edits.specs.Pins.{newer_of, pin_cmp, pins_for}
use Rattle.edits.specs.declared.pins.TargetPins.{TargetPins}
use Rattle.edits.specs.declared.request.Edit.{Edit}
use Rattle.edits.specs.declared.request.Edit.TheVariants.{Retarget, Upgrade}

-- the names whose versions an upgrade drops
abbrev pub named_in : Edit → List (List ℕ)
named_in (Upgrade texts) = map normal_of texts
named_in edit = []

-- a name, an environment and the versions that are kept there
abbrev pub Kept : Type 0
Kept = List ℕ × (Texts × List (List ℕ × VersionParts))

-- those of a target before it is locked
abbrev pub kept_of : Unlocked → Kept
kept_of unlocked = (unlocked.name, (unlocked.environment, unlocked.kept.entries))

-- those of a target that an edit leaves
abbrev pub kept_for : Index → Edit → Target → Kept
kept_for index edit target = (target.name, (target.environment, kept_pins index target edit))

-- those of a target that is named for a retarget
abbrev pub kept_named : Index → List Target → List TargetPins → List ℕ × Texts → Kept
kept_named index present pins given = (given.0, (given.1, kept_retargeted index present pins given))

-- those of all targets that an edit leads to
abbrev pub kept_after : Index → List Target → Edit → List Kept
kept_after index present (Retarget given pins) = map (kept_named index present pins) given
kept_after index present edit = map (kept_for index edit) present

-- those of a named environment at the beginning, of these that are handed in
abbrev pub kept_first : Index → List TargetPins → List ℕ × Texts → Kept
kept_first index pins target = (target.0, (target.1, newer_of index [] (pins_for pins target.0)))

-- whether versions have none of the name of a pin, or one that is below it
abbrev pub takes : Index → List (List ℕ × VersionParts) → List ℕ × VersionParts → Bool
takes index versions pin = option_map_or (λ own. is_lt (pin_cmp index pin.0 own pin.1)) (version_for versions pin.0) true

-- versions with one more, which takes the place of one of its name that is below it
abbrev pub with_pin : Index → List (List ℕ × VersionParts) → List ℕ × VersionParts → List (List ℕ × VersionParts)
with_pin index versions pin = if takes index versions pin then insert_entry (slice_cmp nat_cmp) versions pin.0 pin.1 else versions

-- versions with others, one after another
abbrev pub with_pins : Index → List (List ℕ × VersionParts) → List (List ℕ × VersionParts) → List (List ℕ × VersionParts)
with_pins index versions pins = fold (with_pin index) versions pins
