-- Files of pins, and the targets that they are for. All of it is reqlock's own rule.
use Rattle.std.specs.Prelude.{◌≡◌, ℕ, ◌==◌, ◌/◌, ◌&&◌, nat_eq, nat_lt, codes, count_by, Bool, List, [], ◌∷◌, filter, flat_map, length, map, Result, Ok, Err, if◌then◌else◌}
use Rattle.std.specs.List.{ends_with, list_any}
use Rattle.std.specs.Str.{bytes_eq}
use Rattle.markers.specs.Environment.{Texts}
use Rattle.pep440.specs.Version.{VersionParts}
use Rattle.edits.specs.declared.pins.TargetPins.{TargetPins}
use Rattle.states.specs.declared.target.Target.{Target}
use Rattle.inputs.specs.Pins.{locked_pins, pins_in, written_pins}
use Rattle.inputs.specs.declared.pin_fault.PinFault.{PinFault}
use Rattle.inputs.specs.declared.pin_fault.PinFault.TheVariants as pins
use Rattle.inputs.specs.declared.pin_file.PinFile.{PinFile}
use Rattle.inputs.specs.declared.input_files.InputFault.{InputFault}
use Rattle.inputs.specs.declared.input_files.InputFault.TheVariants as inputs
use Rattle.inputs.specs.declared.pins_files.PinsFile.{PinsFile}
use Rattle.inputs.specs.declared.pins_files.LentTarget.{LentTarget}
use Rattle.inputs.specs.declared.unread.Unread.TheVariants.{ManyDots}
use Rattle.inputs.specs.Faults.{of_file}
use Rattle.inputs.specs.Handed.{AreAt, Handed}
use Rattle.inputs.specs.TargetFiles.{in_front, target_file_of}
use Rattle.inputs.specs.declared.fault.Fault.{Fault}
use Rattle.inputs.specs.declared.input_files.InputFile.TheVariants.{Pins}
use Rattle.inputs.specs.declared.named_file.NamedBytes.{NamedBytes}
use Rattle.inputs.specs.declared.named_file.NamedPath.{NamedPath}

-- what was read, or its fault as that of an input
abbrev pub as_pins : Result PinFile PinFault → Result PinFile InputFault
as_pins (Ok file) = Ok file
as_pins (Err (pins.Lock fault)) = Err (inputs.Lock fault)
as_pins (Err (pins.Lines fault)) = Err (inputs.Requirements fault)
as_pins (Err (pins.NoPin line)) = Err (inputs.NoPin line)
as_pins (Err pins.OutOfMemory) = Err inputs.OutOfMemory

-- how many bytes are dots
abbrev pub count_dots : List ℕ → ℕ
count_dots bytes = count_by (λ b. b == 46) bytes

-- whether over a thousand bytes are dots, and more than one in eight
abbrev pub has_many_dots : List ℕ → Bool
has_many_dots bytes = nat_lt 1000 (count_dots bytes) && nat_lt (length bytes / 8) (count_dots bytes)

-- the file of pins that bytes are, a lock or a requirements file; a lock that is mostly dotted keys isn't read
abbrev pub pin_file_in : Bool → List ℕ → Result PinFile InputFault
pin_file_in is_lock bytes = if is_lock then (if has_many_dots bytes then Err (inputs.Unreadable ManyDots) else as_pins (locked_pins bytes)) else as_pins (written_pins bytes)

-- whether one of the files is for a target alone
abbrev pub has_own : List PinsFile → List ℕ → Bool
has_own files target = list_any (λ f. bytes_eq f.target target) files

-- whether a file is for a target: it names it, or none does and it names no target
abbrev pub is_for : Bool → List ℕ → PinsFile → Bool
is_for has_own target file = if has_own then bytes_eq file.target target else length file.target == 0

-- what files pin for a target in its environment
abbrev pub versions_for : List PinsFile → List ℕ → Texts → List (List ℕ × VersionParts)
versions_for files target environment = flat_map (λ f. pins_in environment f.file) (filter (is_for (has_own files target) target) files)

-- what files pin for each of these named environments
abbrev pub pins_for_each : List PinsFile → List (List ℕ × Texts) → List TargetPins
pins_for_each files given = map (λ p. record { target = p.0; versions = versions_for files p.0 p.1 }) given

-- a target that is lent, and one with its lock, as a named environment
abbrev pub given_by : LentTarget → List ℕ × Texts
given_by target = (target.name.now, target.environment.now)

abbrev pub without_lock : Target → List ℕ × Texts
without_lock target = (target.name, target.environment)

-- what files pin for each of the targets
abbrev pub pins_for : List PinsFile → List LentTarget → List TargetPins
pins_for files targets = pins_for_each files (map given_by targets)

-- the file of pins that bytes are, with the target that it is for; a path that ends so is that of a lock
abbrev pub with_target : List ℕ → Result PinFile Fault → Result PinsFile Fault
with_target target (Ok file) = Ok (record { target = target; file = file })
with_target target (Err fault) = Err fault

abbrev pub named_pins : NamedBytes (List ℕ) → Result PinsFile Fault
named_pins read = with_target read.name (of_file (Pins read.name) (pin_file_in (ends_with nat_eq read.path (codes ".toml")) read.bytes.items))

-- the files of pins that bytes are; the first that are none are told
abbrev pub pins_files_in : List (NamedBytes (List ℕ)) → Result (List PinsFile) Fault
pins_files_in [] = Ok []
pins_files_in (one ∷ others) = in_front (named_pins one) (pins_files_in others)

-- the files that these bytes are pin this for each of these named environments
abbrev pub ArePinsOf : List (NamedBytes (List ℕ)) → List (List ℕ × Texts) → List TargetPins → Type 0
ArePinsOf read given pins = (files : List PinsFile) × (pins_files_in read ≡ Ok files) × (pins ≡ pins_for_each files given)

-- the same of files at these paths
abbrev pub ArePinsFor : Handed → List (NamedPath (List ℕ)) → List (List ℕ × Texts) → List TargetPins → Type 0
ArePinsFor handed paths given pins = (read : List (NamedBytes (List ℕ))) × AreAt handed Pins paths read × ArePinsOf read given pins

-- the files that values of `--pins` name
abbrev pub pins_paths : List (List ℕ) → List (NamedPath (List ℕ))
pins_paths values = map target_file_of values
