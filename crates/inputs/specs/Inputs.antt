-- What the files that a call reads stand for. All of it is reqlock's own rule.
use Rattle.std.specs.Prelude.{ℕ, List, Result, Ok, Err}
use Rattle.markers.specs.Environment.{Texts, environment_of}
use Rattle.pep508.specs.Requirement.{file_of}
use Rattle.snapshot.specs.Packages.{Index as Packages, snapshot_of}
use Rattle.inputs.specs.declared.input_files.InputFault.{InputFault}
use Rattle.inputs.specs.declared.input_files.InputFault.TheVariants.{Requirements, Index, Environment}

-- what was read, or its fault as that of an input
abbrev pub as_input : {T E : Type 0} → (E → InputFault) → Result T E → Result T InputFault
as_input input (Ok value) = Ok value
as_input input (Err fault) = Err (input fault)

-- the requirements file that bytes are
abbrev pub requirements_in : List ℕ → Result (List (List ℕ)) InputFault
requirements_in bytes = as_input Requirements (file_of bytes)

-- the index that bytes are
abbrev pub index_in : List ℕ → Result Packages InputFault
index_in bytes = as_input Index (snapshot_of bytes)

-- the environment that bytes are
abbrev pub environment_in : List ℕ → Result Texts InputFault
environment_in bytes = as_input Environment (environment_of bytes)
