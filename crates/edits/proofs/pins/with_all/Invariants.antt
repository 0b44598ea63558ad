use Rattle.std.proofs.Common.{◌≡◌, drop}
use Rattle.edits.specs.Tied.KeptVersions.{with_pins}
use Rattle.edits.specs.Pins.{pins_for}
use Rattle.edits.proofs.pins.with_all.Given as goal

abbrev pub invariant-loop-pin : goal.invariant-loop-pin
invariant-loop-pin l =
    with_pins l.snapshot l.versions.entries (pins_for (drop l.pin-index l.pins) l.target) ≡ with_pins l.snapshot l.fn.versions.entries (pins_for l.pins l.target)
