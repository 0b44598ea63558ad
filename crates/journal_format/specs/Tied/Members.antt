-- The members of a step, as they are put together.
-- Tied to `step_data` by the contract of `step_value`; need not be read.
use Rattle.std.specs.Prelude.{List, [], ◌∷◌, codes}
use Rattle.changes.specs.declared.change.parts.TargetChange.{TargetChange}
use Rattle.serde_json.specs.Data.{Members, put}
use Rattle.journal_format.specs.Written.{array_of, target_change_data}

-- members with the key of targets, where there is one
abbrev pub with_targets : List TargetChange → Members → Members
with_targets [] members = members
with_targets (change ∷ changes) members = put (codes "targets") (array_of target_change_data (change ∷ changes)) members
