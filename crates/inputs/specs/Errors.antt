-- What the errors of the system mean for the files of a call. All of it is reqlock's own rule.
use Rattle.std.specs.Prelude.{◌≡◌, ℕ, Bool, true, false, List, Option, None, Result, Ok, Err}
use Rattle.std.specs.IoError.{error_kind}
use Rattle.std.specs.declared.io.Error.{Error}
use Rattle.std.specs.declared.io.ErrorKind.{ErrorKind}
use Rattle.std.specs.declared.io.ErrorKind.TheVariants as kinds
use Rattle.inputs.specs.declared.fault.Fault.{Fault}
use Rattle.inputs.specs.declared.fault.Fault.TheVariants.{Input, Unwritten, OutOfMemory}
use Rattle.inputs.specs.declared.input_files.InputFault.TheVariants.{Unreadable}
use Rattle.inputs.specs.declared.input_files.InputFile.{InputFile}
use Rattle.inputs.specs.declared.unread.Unread.TheVariants.{At}

-- want of memory, or else this fault
abbrev pub unless_memory : ErrorKind → Fault → Fault
unless_memory kinds.OutOfMemory fault = OutOfMemory
unless_memory kind fault = fault

-- why a file can't be written
abbrev pub unwritten_by : InputFile → Error → Fault
unwritten_by file error = unless_memory (error_kind error) (Unwritten file)

-- the bytes that were read of a file at a path, or why it can't be read
abbrev pub read_as : {A : Type 0} → InputFile → List ℕ → Result A Error → Result A Fault
read_as file path (Ok bytes) = Ok bytes
read_as file path (Err error) = Err (unless_memory (error_kind error) (Input file (Unreadable (At path error))))

-- the file can't be read, by some error at the path
abbrev pub IsUnreadAt : InputFile → List ℕ → Fault → Type 0
IsUnreadAt file path fault = (error : Error) × (fault ≡ Input file (Unreadable (At path error)))

-- nothing, where an error is passed over; only want of memory isn't
abbrev pub nothing_unless_memory : {A : Type 0} → ErrorKind → Result (Option A) Fault
nothing_unless_memory kinds.OutOfMemory = Err OutOfMemory
nothing_unless_memory kind = Ok None

-- no folder has the path
abbrev pub tells_no_folder : ErrorKind → Bool
tells_no_folder kinds.NotFound = true
tells_no_folder kinds.NotADirectory = true
tells_no_folder kinds.InvalidFilename = true
tells_no_folder kinds.FilesystemLoop = true
tells_no_folder kind = false

-- the file system knows no locks, by the kind of an error; Linux's ENOLCK has none
abbrev pub tells_no_locks : ErrorKind → Bool
tells_no_locks kinds.Unsupported = true
tells_no_locks kinds.InvalidInput = true
tells_no_locks kind = false
