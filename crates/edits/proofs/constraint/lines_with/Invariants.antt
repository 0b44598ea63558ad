use Rattle.std.proofs.Common.{◌≡◌, take}
use Rattle.edits.specs.LinesOnName.{with_set_on}
use Rattle.edits.proofs.constraint.lines_with.Given as goal

abbrev pub invariant-loop-line : goal.invariant-loop-line
invariant-loop-line l = l.after.items ≡ with_set_on l.name l.specifiers (take l.line-index l.lines)
