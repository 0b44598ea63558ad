use Rattle.std.proofs.Common.{◌≡◌, map, take}
use Rattle.inputs.proofs.pin_file.pins_of_entries.Given as goal

abbrev pub invariant-loop-entry : goal.invariant-loop-entry
invariant-loop-entry l = l.pins.items ≡ map (λ e. (e.name, e.version)) (take l.entry-index l.entries)
