use Rattle.std.proofs.Common.{◌≡◌, take}
use Rattle.states.proofs.entry.wheels_of.Given as goal

abbrev pub invariant-loop-file : goal.invariant-loop-file
invariant-loop-file l = l.wheels.items ≡ take l.file-index l.files
