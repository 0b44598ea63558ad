use Rattle.std.proofs.Common.{◌≡◌, ◌++◌, take}
use Rattle.changes.proofs.change.spliced_lines.keep.Given as goal

abbrev pub invariant-loop-line : goal.invariant-loop-line
invariant-loop-line l = l.after.items ≡ l.initial.after.items ++ take l.line-index l.lines
