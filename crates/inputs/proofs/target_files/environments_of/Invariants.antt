use Rattle.std.proofs.Common.{◌≡◌}
use Rattle.inputs.specs.TargetFiles.{environments_in}
use Rattle.inputs.proofs.TargetFacts.{behind}
use Rattle.inputs.proofs.target_files.environments_of.Given as goal

-- what is read of the others goes behind the environments so far
abbrev pub invariant-loop-target : goal.invariant-loop-target
invariant-loop-target l = behind l.environments.items (environments_in l.target-iterator.rest.items) ≡ environments_in l.fn.read.items
