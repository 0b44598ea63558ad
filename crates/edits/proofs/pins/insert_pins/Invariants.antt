use Rattle.std.proofs.Common.{◌≡◌, drop}
use Rattle.edits.specs.Tied.KeptVersions.{with_pins}
use Rattle.edits.proofs.pins.insert_pins.Given as goal

abbrev pub invariant-loop-name : goal.invariant-loop-name
invariant-loop-name l = with_pins l.snapshot l.versions.entries (drop l.name-index l.pins) ≡ with_pins l.snapshot l.fn.versions.entries l.pins
