use Rattle.std.proofs.Common.{◌≡◌, take}
use Rattle.changes.proofs.change.spliced_lines.lines_of.Given as goal

abbrev pub invariant-loop-text : goal.invariant-loop-text
invariant-loop-text l = l.lines.items ≡ take l.text-index l.texts
