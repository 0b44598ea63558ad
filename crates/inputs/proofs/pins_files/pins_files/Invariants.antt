use Rattle.std.proofs.Common.{◌≡◌}
use Rattle.inputs.specs.PinsFiles.{pins_files_in}
use Rattle.inputs.proofs.TargetFacts.{behind}
use Rattle.inputs.proofs.pins_files.pins_files.Given as goal

-- what is read of the others goes behind the files so far
abbrev pub invariant-loop-named : goal.invariant-loop-named
invariant-loop-named l = behind l.files.items (pins_files_in l.named-iterator.rest.items) ≡ pins_files_in l.fn.read.items
