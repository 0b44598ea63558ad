use Rattle.std.proofs.Common.{◌≡◌, ◌++◌, drop}
use Rattle.inputs.specs.Pins.{pins_of_lines}
use Rattle.inputs.proofs.pin_file.pins_of_lines.Given as goal

abbrev pub invariant-loop-line : goal.invariant-loop-line
invariant-loop-line l = l.pins.items ++ pins_of_lines l.environment (drop l.line-index l.lines) ≡ pins_of_lines l.environment l.lines
