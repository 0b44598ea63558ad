-- Files that were read and don't open: those in their places stand for no history.
use Rattle.std.proofs.Common.{◌≡◌, Result, Ok, Err, inl, inr, subst}
use Rattle.changes.proofs.OneOutcome.{After-one}
use Rattle.folder.specs.Held.{Held}
use Rattle.inputs.specs.Faults.{TellsFault}
use Rattle.inputs.specs.declared.fault.Fault.{Fault}
use Rattle.inputs.specs.declared.fault.Fault.TheVariants.{Input, OutOfMemory}
use Rattle.inputs.specs.declared.input_files.InputFault.{InputFault}
use Rattle.inputs.specs.declared.input_files.InputFile.{InputFile}
use Rattle.journal.specs.Changes.{HistoryParts}
use Rattle.journal.specs.Opens.{Opens}
use Rattle.journal.specs.Values.{Refusal}
use Rattle.journal.proofs.OpensOnce.{opens-once}
use Rattle.files.specs.JournalLocks.{AreOfJournal}
use Rattle.files.specs.Places.{AreInPlace, AreNamed, FileBytes, bytes_read}
use Rattle.files.specs.Repair.{NoneStands}
use Rattle.files.specs.declared.saved_files.SavedFiles.{SavedFiles}
use Rattle.files.proofs.OpenedFiles.{opens-as_it}

-- files that are refused
pub refused-none : (h : Held) (files : FileBytes) (refusal : Refusal) → AreOfJournal files.journal files.locks → Opens files.requirements files.locks files.journal (Err refusal) → AreInPlace h files → NoneStands h
refused-none h files refusal of_journal refused are history stands =
    let opens : Opens files.requirements files.locks files.journal (Ok history) = opens-as_it h history files stands are of_journal in
    let both : Ok history ≡ Err refusal = opens-once After-one files.requirements files.locks files.journal (Ok history) (Err refusal) opens refused in cc

-- files of which a fault is told
pub unopened-none : (h : Held) (files : SavedFiles) (file : InputFile) (why : InputFault) (result : Result HistoryParts Fault) → result ≡ Err (Input file why) → TellsFault (Opens files.requirements.items files.locks.entries files.journal) result
    → AreNamed files → AreInPlace h (bytes_read files) → NoneStands h
unopened-none h files file why result is tells named are = so (subst (TellsFault (Opens files.requirements.items files.locks.entries files.journal)) is tells)
  where
    so : TellsFault (Opens files.requirements.items files.locks.entries files.journal) (Err (Input file why)) → NoneStands h
    so (inl memory) = absurd (let other : Input file why ≡ OutOfMemory = memory in cc)
    so (inr told) = refused-none h (bytes_read files) told.0 named told.2 are
