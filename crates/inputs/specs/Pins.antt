-- What a file of pins pins. All of it is reqlock's own rule.
use Rattle.std.specs.Prelude.{ℕ, not, Bool, false, List, [], ◌∷◌, flat_map, map, Option, Some, None, is_some, option_map, Result, Ok, Err, if◌then◌else◌}
use Rattle.std.specs.List.{position_from}
use Rattle.std.specs.Option.{option_and_then, option_to_list}
use Rattle.markers.specs.Environment.{Texts}
use Rattle.markers.specs.declared.fault.Cause.{Cause}
use Rattle.markers.specs.declared.fault.Fault.{Fault as LineFault}
use Rattle.pep440.specs.Version.{VersionParts}
use Rattle.pep440.specs.declared.specifier.Clause.{Clause}
use Rattle.pep440.specs.declared.specifier.Operator.{Operator}
use Rattle.pep440.specs.declared.specifier.Operator.TheVariants.{Equal}
use Rattle.pep508.specs.Requirement.{RequirementParts, file_of, is_active, requirement_of}
use Rattle.pylock.specs.LockOfTable.{lock_in_text}
use Rattle.pylock.specs.Locks.{LockParts}
use Rattle.pylock.specs.declared.fault.Fault.{Fault as LockFault}
use Rattle.inputs.specs.declared.pin_fault.PinFault.{PinFault}
use Rattle.inputs.specs.declared.pin_fault.PinFault.TheVariants as faults
use Rattle.inputs.specs.declared.pin_file.PinFile.{PinFile}
use Rattle.inputs.specs.declared.pin_file.PinFile.TheVariants as files

-- the version of a clause `==` without `.*`
abbrev pub equal_to : Operator → VersionParts → Option VersionParts
equal_to Equal version = Some version
equal_to operator version = None

-- the version that clauses pin: there is one, `==` without `.*`
abbrev pub version_of_pin : List Clause → Option VersionParts
version_of_pin (clause ∷ []) = equal_to clause.operator clause.version
version_of_pin clauses = None

-- the version that a requirement pins
abbrev pub pinned : RequirementParts → Option VersionParts
pinned wanted = version_of_pin wanted.clauses

-- whether what was read of a line asks for something, and pins no version
abbrev pub asks_otherwise : Result (Option RequirementParts) Cause → Bool
asks_otherwise (Ok (Some wanted)) = not (is_some (pinned wanted))
asks_otherwise (Ok None) = false
asks_otherwise (Err cause) = false

abbrev pub is_no_pin : List ℕ → Bool
is_no_pin line = asks_otherwise (requirement_of line)

-- the number, from 1, of the first line that asks for something and pins no version
abbrev pub first_no_pin : List (List ℕ) → Option ℕ
first_no_pin lines = position_from is_no_pin 1 lines

-- the name that a requirement pins in an environment, with its version
abbrev pub pin_of : Texts → Option RequirementParts → Option (List ℕ × VersionParts)
pin_of environment None = None
pin_of environment (Some wanted) = if is_active wanted environment then option_map (λ version. (wanted.name, version)) (pinned wanted) else None

-- the same of what was read of a line
abbrev pub pin_read : Texts → Result (Option RequirementParts) Cause → Option (List ℕ × VersionParts)
pin_read environment (Ok wanted) = pin_of environment wanted
pin_read environment (Err cause) = None

-- the pins of lines in an environment
abbrev pub pins_of_line : Texts → List ℕ → List (List ℕ × VersionParts)
pins_of_line environment line = option_to_list (pin_read environment (requirement_of line))

abbrev pub pins_of_lines : Texts → List (List ℕ) → List (List ℕ × VersionParts)
pins_of_lines environment lines = flat_map (pins_of_line environment) lines

-- what a file pins in an environment: a lock all its entries, a requirements file what its active lines pin
abbrev pub pins_in : Texts → PinFile → List (List ℕ × VersionParts)
pins_in environment (files.Lock lock) = map (λ e. (e.name, e.version)) lock.entries
pins_in environment (files.Lines lines) = pins_of_lines environment lines

-- the file of pins that a lock is, or why it is none
abbrev pub as_lock : Result LockParts LockFault → Result PinFile PinFault
as_lock (Ok lock) = Ok (files.Lock lock)
as_lock (Err fault) = Err (faults.Lock fault)

abbrev pub locked_pins : List ℕ → Result PinFile PinFault
locked_pins bytes = as_lock (lock_in_text bytes)

-- the lines of a requirements file, or why it is none
abbrev pub as_lines : Result (List (List ℕ)) LineFault → Result (List (List ℕ)) PinFault
as_lines (Ok lines) = Ok lines
as_lines (Err fault) = Err (faults.Lines fault)

abbrev pub read_lines : List ℕ → Result (List (List ℕ)) PinFault
read_lines bytes = as_lines (file_of bytes)

-- lines each of whose requirements pins a version
abbrev pub all_pins : List (List ℕ) → Option ℕ → Result PinFile PinFault
all_pins lines None = Ok (files.Lines lines)
all_pins lines (Some number) = Err (faults.NoPin number)

abbrev pub only_pins : Result (List (List ℕ)) PinFault → Result PinFile PinFault
only_pins (Ok lines) = all_pins lines (first_no_pin lines)
only_pins (Err fault) = Err fault

-- the file of pins that a requirements file is, or why it is none
abbrev pub written_pins : List ℕ → Result PinFile PinFault
written_pins bytes = only_pins (read_lines bytes)
