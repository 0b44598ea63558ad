use Rattle.pep508.proofs.Files.{file_of-joined}
use Rattle.pep508.proofs.LinesAreCut.{cut-AreLines}
use Rattle.changes.proofs.WholeLines.{whole-lines}
use Rattle.changes.proofs.change.file.are_lines.Goals as goal

pub returns-clause-lines : goal.returns-clause-lines
returns-clause-lines c = rw c.are_whole.ensures (whole-lines c.args.lines.now c.recall_invariants.ensures)

pub returns-clause-read : goal.returns-clause-read
returns-clause-read c =
    rw c.are_whole.ensures
    (λ whole. file_of-joined c.args.lines.now c.recall_invariants.ensures (cut-AreLines c.args.lines.now ((whole-lines c.args.lines.now c.recall_invariants.ensures).0 whole)))
