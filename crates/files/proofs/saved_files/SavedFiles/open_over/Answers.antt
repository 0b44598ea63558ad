use Rattle.files.proofs.saved_files.SavedFiles.open_over.Goals as goal

pub returns-in-Some : goal.returns-in-Some
returns-in-Some c = rw c.in-Some.is c.open_with.ensures

pub returns-in-None : goal.returns-in-None
returns-in-None c = rw c.in-None.is c.open.ensures
