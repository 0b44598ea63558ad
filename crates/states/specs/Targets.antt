-- Names that are read, and lists of named environments. All of it is reqlock's own rule.
use Rattle.std.specs.Prelude.{ℕ, List, [], ◌∷◌, is_some, Result, Ok, Err, if◌then◌else◌}
use Rattle.std.specs.BTreeMap.{insert_entry, is_at}
use Rattle.std.specs.Cmp.Lexicographic.{slice_cmp}
use Rattle.std.specs.Map.{lookup}
use Rattle.std.specs.Ordering.{nat_cmp}
use Rattle.markers.specs.Environment.{Texts}
use Rattle.states.specs.TargetNames.{is_target_name}
use Rattle.states.specs.declared.refusal.Refusal.{Refusal}
use Rattle.states.specs.declared.refusal.Refusal.TheVariants.{BadTarget, DuplicateTarget, NoTarget}

-- the name that a text is
abbrev pub target_name_of : List ℕ → Result (List ℕ) Refusal
target_name_of text = if is_target_name text then Ok text else Err BadTarget

-- named environments with more of them, each in its place by its name; the first whose name is there already is refused
abbrev pub with_targets : List (List ℕ × Texts) → List (List ℕ × Texts) → Result (List (List ℕ × Texts)) Refusal
with_targets targets [] = Ok targets
with_targets targets (p ∷ more) =
    if is_some (lookup (is_at (slice_cmp nat_cmp p.0)) targets) then Err (DuplicateTarget p.0)
    else with_targets (insert_entry (slice_cmp nat_cmp) targets p.0 p.1) more

-- the targets that named environments make: there is one at least, and no name is there twice
abbrev pub targets_of : List (List ℕ × Texts) → Result (List (List ℕ × Texts)) Refusal
targets_of [] = Err NoTarget
targets_of (p ∷ more) = with_targets [] (p ∷ more)
