use Rattle.pep508.proofs.Files.{file_of-joined}
use Rattle.pep508.proofs.LinesAreCut.{cut-AreLines}
use Rattle.pep508.proofs.file.ReqFile.recall_invariant.Goals as goal

pub returns : goal.returns
returns c = rw (← c.self.view_is) (file_of-joined c.self.inside.lines (rw c.as_slice.ensures at c.recall_invariants.ensures) (cut-AreLines c.self.inside.lines c.self.invariant))
