use Rattle.std.proofs.Common.{◌≡◌, take}
use Rattle.changes.specs.Tied.SplicedLines.{put_by}
use Rattle.changes.proofs.change.spliced_lines.lines_put.Given as goal

abbrev pub invariant-loop-splice : goal.invariant-loop-splice
invariant-loop-splice l = l.put.items ≡ put_by (take l.splice-index l.splices)
