-- Where the files in the places of a folder may give way: they stand for no history, or a read may fail.
use Rattle.std.proofs.Common.{◌≡◌, ◌⊎◌, ◌∙◌, ℕ, List, Option, Some, None, Result, Ok, Err, IfErr, IfSome, IsSome, ap, inl, inr, refl, subst, sym}
use Rattle.std.specs.Option.{option_map_or}
use Rattle.folder.specs.Held.{Held}
use Rattle.inputs.specs.Faults.{TellsFault}
use Rattle.inputs.specs.declared.fault.Fault.{Fault}
use Rattle.inputs.specs.declared.fault.Fault.TheVariants.{Input, OutOfMemory}
use Rattle.inputs.specs.declared.input_files.InputFault.{InputFault}
use Rattle.inputs.specs.declared.input_files.InputFile.{InputFile}
use Rattle.journal.specs.Changes.{HistoryParts}
use Rattle.journal.specs.Locks.{LockTexts}
use Rattle.journal.specs.Opens.{Opens}
use Rattle.files.specs.Places.{AreInPlace, AreNamed, bytes_read}
use Rattle.files.specs.Repair.{NoneStands}
use Rattle.files.specs.declared.saved_files.SavedFiles.{SavedFiles}
use Rattle.files.proofs.HeldFiles.{held_also}
use Rattle.files.proofs.Staying.{unopened-none}

-- a file that can't be read isn't one for which memory is wanting
memory_is_no_file : (file : InputFile) (why : InputFault) → Input file why ≡ OutOfMemory → ⊥
memory_is_no_file file why is = cc is

pub not_memory : {T : Type 0} (A : Type 0) (file : InputFile) (why : InputFault) (f : Fault) (result : Result T Fault) → result ≡ Err f → f ≡ Input file why → IfErr result (λ f. (f ≡ OutOfMemory) ⊎ A) → A
not_memory {T} A file why f result is input told = elim (subst (λ (r : Result T Fault). IfErr r (λ f. (f ≡ OutOfMemory) ⊎ A)) is told) [ inl memory ↦ absurd (memory_is_no_file file why (sym input ∙ memory)) | inr a ↦ a ]

-- files that don't open, with another text in the place of the requirements file or without
pub gives_way : {X : Type 0} (text : X → List ℕ) (requirements : Option X) (o : Option Held) (files : SavedFiles) (file : InputFile) (why : InputFault) (f : Fault) (result : Result HistoryParts Fault) → result ≡ Err f → f ≡ Input file why
    → TellsFault (Opens (option_map_or text requirements files.requirements.items) files.locks.entries files.journal) result → AreNamed files → IfSome o (λ h. AreInPlace h (bytes_read files)) → IsSome requirements ⊎ IfSome o NoneStands
gives_way text (Some x) o files file why f result is input tells named are = inl refl
gives_way text None o files file why f result is input tells named are =
    inr (held_also o (λ h. AreInPlace h (bytes_read files)) NoneStands (λ h. unopened-none h files file why result (is ∙ ap Err input) tells named) are)

-- files that open without another text in the place of the requirements file
pub opens_without : {X : Type 0} (text : X → List ℕ) (requirements : Option X) (own : List ℕ) (locks : LockTexts) (journal : List ℕ) (history : HistoryParts) → requirements ≡ None → Opens (option_map_or text requirements own) locks journal (Ok history)
    → Opens own locks journal (Ok history)
opens_without {X} text requirements own locks journal history none opens = subst (λ (o : Option X). Opens (option_map_or text o own) locks journal (Ok history)) none opens
