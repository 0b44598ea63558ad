-- The edit that a retarget is. All of it is reqlock's own rule.
use Rattle.std.specs.Prelude.{◌≡◌, ℕ, List, Ok}
use Rattle.edits.specs.declared.pins.TargetPins.{TargetPins}
use Rattle.edits.specs.declared.request.Edit.{Edit}
use Rattle.edits.specs.declared.request.Edit.TheVariants.{Retarget}
use Rattle.inputs.specs.Handed.{AreAt, Handed}
use Rattle.inputs.specs.PinsFiles.{ArePinsOf}
use Rattle.inputs.specs.TargetFiles.{targets_in}
use Rattle.inputs.specs.declared.input_files.InputFile.TheVariants.{Environment, Pins}
use Rattle.inputs.specs.declared.named_file.NamedBytes.{NamedBytes}
use Rattle.inputs.specs.declared.named_file.NamedPath.{NamedPath}
use Rattle.journal.specs.Values.{Targets}

-- an edit leads to the targets that the bytes of environments make, with what the bytes of files of pins pin for each of them
pub record IsRetarget (read pins_read : List (NamedBytes (List ℕ))) (edit : Edit) : Type 0 where
  pub targets : Targets
  pub pins : List TargetPins
  pub is : edit ≡ Retarget targets pins
  pub made : targets_in read ≡ Ok targets
  pub pinned : ArePinsOf pins_read targets pins

-- an edit leads to the targets whose environments stand at these paths, with what the files at those other paths pin
pub record LeadsToNamed (handed : Handed) (paths pins : List (NamedPath (List ℕ))) (edit : Edit) : Type 0 where
  pub read : List (NamedBytes (List ℕ))
  pub pinned : List (NamedBytes (List ℕ))
  pub read_at : AreAt handed Environment paths read
  pub pinned_at : AreAt handed Pins pins pinned
  pub retarget : IsRetarget read pinned edit
