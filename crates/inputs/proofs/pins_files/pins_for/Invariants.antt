use Rattle.std.proofs.Common.{◌≡◌, take}
use Rattle.inputs.specs.PinsFiles.{pins_for}
use Rattle.inputs.proofs.pins_files.pins_for.Given as goal

abbrev pub invariant-loop-given : goal.invariant-loop-given
invariant-loop-given l = l.pins.items ≡ pins_for l.files (take l.given-index l.targets)
