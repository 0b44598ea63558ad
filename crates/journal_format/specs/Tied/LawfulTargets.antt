-- What holds of the targets of a change anyway.
-- Tied to `step_data` by the contract of `Session::save` of `journal`; need not be read.
use Rattle.std.specs.Prelude.{◌≡◌, true, IfSome}
use Rattle.std.specs.List.{AllByRecursion}
use Rattle.markers.specs.Environment.{IsEnvironment}
use Rattle.states.specs.TargetNames.{is_target_name}
use Rattle.changes.specs.Changes.{ChangeParts}
use Rattle.changes.specs.declared.change.parts.TargetChange.{TargetChange}

-- a change of a target has a lawful name and lawful environments
pub record IsLawfulTarget (c : TargetChange) : Type 0 where
  pub name : is_target_name c.name ≡ true
  pub old : IfSome c.old IsEnvironment
  pub new : IfSome c.new IsEnvironment

-- the targets of a change are lawful, and those of its entries have lawful names
pub record IsLawfulStep (change : ChangeParts) : Type 0 where
  pub targets : AllByRecursion IsLawfulTarget change.targets
  pub entries : AllByRecursion (λ c. is_target_name c.target ≡ true) change.entries
