-- The targets that a history begins with. All of it is reqlock's own rule.
use Rattle.std.specs.Prelude.{◌≡◌, ℕ, List, Ok}
use Rattle.edits.specs.declared.first_targets.FirstTargets.{FirstTargets}
use Rattle.inputs.specs.Handed.{AreAt, Handed}
use Rattle.inputs.specs.PinsFiles.{ArePinsFor}
use Rattle.inputs.specs.TargetFiles.{targets_in}
use Rattle.inputs.specs.declared.input_files.InputFile.TheVariants.{Environment}
use Rattle.inputs.specs.declared.named_file.NamedBytes.{NamedBytes}
use Rattle.inputs.specs.declared.named_file.NamedPath.{NamedPath}

-- targets whose environments are what stands at these paths, with what the files at those other paths pin for them
pub record AreTargetsOf (handed : Handed) (paths pinned : List (NamedPath (List ℕ))) (first : FirstTargets) : Type 0 where
  pub read : List (NamedBytes (List ℕ))
  pub at : AreAt handed Environment paths read
  pub made : targets_in read ≡ Ok first.targets
  pub pins : ArePinsFor handed pinned first.targets first.pins
