use Rattle.files.proofs.CompletedFiles.{AreNone}
use Rattle.files.proofs.stopped_save.found_in.Given as goal

-- the ways so far don't complete the folder
abbrev pub invariant-loop-requirements : goal.invariant-loop-requirements
invariant-loop-requirements g l = AreNone (g.F.HistoryFolder.may_fail l.folder) (g.F.Folder.held l.folder) l.requirements-index
