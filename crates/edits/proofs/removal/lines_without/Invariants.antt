use Rattle.std.proofs.Common.{◌≡◌, take}
use Rattle.edits.specs.LinesOnName.{without_line}
use Rattle.edits.proofs.removal.lines_without.Given as goal

abbrev pub invariant-loop-line : goal.invariant-loop-line
invariant-loop-line l = l.after.items ≡ without_line l.name (take l.line-index l.lines)
