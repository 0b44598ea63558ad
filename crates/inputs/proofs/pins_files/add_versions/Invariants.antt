use Rattle.std.proofs.Common.{◌≡◌, ◌++◌}
use Rattle.inputs.specs.Pins.{pins_in}
use Rattle.inputs.proofs.pins_files.add_versions.Given as goal

abbrev pub invariant-loop-pin : goal.invariant-loop-pin
invariant-loop-pin l = l.all.items ++ l.pin-iterator.rest.items ≡ l.initial.all.items ++ pins_in l.fn.environment l.fn.file
