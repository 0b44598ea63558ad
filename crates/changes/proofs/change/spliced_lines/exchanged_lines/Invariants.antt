use Rattle.std.proofs.Common.{◌-◌, length}
use Rattle.changes.specs.Tied.SplicedLines.{IsExchangedFrom}
use Rattle.changes.proofs.change.spliced_lines.exchanged_lines.Given as goal

abbrev pub invariant-loop-done : goal.invariant-loop-done
invariant-loop-done l = IsExchangedFrom l.splices l.fn.lines (length l.splices - l.done) l.after.items l.left.items
