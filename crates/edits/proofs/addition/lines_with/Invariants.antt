use Rattle.std.proofs.Common.{◌≡◌, take}
use Rattle.edits.proofs.addition.lines_with.Given as goal

abbrev pub invariant-loop-old : goal.invariant-loop-old
invariant-loop-old l = l.after.items ≡ take l.old-index l.lines
