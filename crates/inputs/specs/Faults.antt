-- How what is refused is told of a file. All of it is reqlock's own rule.
use Rattle.std.specs.Prelude.{◌≡◌, ◌⊎◌, Result, Ok, Err}
use Rattle.states.specs.declared.refusal.Refusal.{Refusal}
use Rattle.states.specs.declared.refusal.Refusal.TheVariants as refusals
use Rattle.states.specs.declared.refusal.SavedFile.TheVariants as saved
use Rattle.inputs.specs.declared.fault.Fault.{Fault}
use Rattle.inputs.specs.declared.fault.Fault.TheVariants as faults
use Rattle.inputs.specs.declared.input_files.InputFault.{InputFault}
use Rattle.inputs.specs.declared.input_files.InputFault.TheVariants as inputs
use Rattle.inputs.specs.declared.input_files.InputFile.{InputFile}
use Rattle.inputs.specs.declared.input_files.InputFile.TheVariants as names

-- the fault that a refusal is told as: that of the file that it is about, or the refusal itself
abbrev pub fault_of : Refusal → Fault
fault_of refusals.OutOfMemory = faults.OutOfMemory
fault_of (refusals.FilesDisagree saved.Requirements) = faults.Input names.Requirements inputs.Disagrees
fault_of (refusals.FilesDisagree (saved.Lock name)) = faults.Input (names.Lock name) inputs.Disagrees
fault_of (refusals.JournalBroken line) = faults.Input names.Journal (inputs.JournalBroken line)
fault_of refusal = faults.Refused refusal

-- what was read, or its refusal as a fault
abbrev pub refused : {T : Type 0} → Result T Refusal → Result T Fault
refused (Ok value) = Ok value
refused (Err refusal) = Err (fault_of refusal)

-- what was read of a file, or its fault as that of the file; want of memory is no file's
abbrev pub of_file : {T : Type 0} → InputFile → Result T InputFault → Result T Fault
of_file file (Ok value) = Ok value
of_file file (Err inputs.OutOfMemory) = Err faults.OutOfMemory
of_file file (Err fault) = Err (faults.Input file fault)

-- what a call that takes memory answers: what the relation asks for, its refusal told as a fault
abbrev pub TellsFault : {A : Type 0} → (Result A Refusal → Type 0) → Result A Fault → Type 0
TellsFault Is (Ok value) = Is (Ok value)
TellsFault Is (Err fault) = (fault ≡ faults.OutOfMemory) ⊎ ((refusal : Refusal) × (fault ≡ fault_of refusal) × Is (Err refusal))
