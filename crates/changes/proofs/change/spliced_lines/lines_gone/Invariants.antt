use Rattle.changes.proofs.SplicedFacts.{AreGoneTo}
use Rattle.changes.proofs.change.spliced_lines.lines_gone.Given as goal

abbrev pub invariant-loop-splice : goal.invariant-loop-splice
invariant-loop-splice l = AreGoneTo l.splices l.splice-index l.lines l.from l.gone.items
