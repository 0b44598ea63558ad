use Rattle.std.proofs.Common.{◌≡◌, ◌+◌, drop}
use Rattle.std.specs.List.{position_from}
use Rattle.inputs.specs.Pins.{first_no_pin, is_no_pin}
use Rattle.inputs.proofs.pinned_version.first_no_pin.Given as goal

abbrev pub invariant-loop-place : goal.invariant-loop-place
invariant-loop-place l = position_from is_no_pin (l.place + 1) (drop l.place l.lines) ≡ first_no_pin l.lines
