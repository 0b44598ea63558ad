-- What lines require.
use Rattle.std.specs.Prelude.{ℕ, Bool, false, List, Option, Some, None, Result, Ok, Err}
use Rattle.std.specs.Str.{bytes_eq}
use Rattle.markers.specs.Environment.{Texts}
use Rattle.pep508.specs.Requirement.{RequirementParts, is_active, requirement_of}
use Rattle.markers.specs.declared.fault.Cause.{Cause}

-- what was read, where it is a requirement
abbrev pub if_read : Result (Option RequirementParts) Cause → Option RequirementParts
if_read (Ok wanted) = wanted
if_read (Err cause) = None

-- what a line requires
abbrev pub required_by : List ℕ → Option RequirementParts
required_by line = if_read (requirement_of line)

-- whether the requirement is one on the name
abbrev pub is_on : List ℕ → Option RequirementParts → Bool
is_on name None = false
is_on name (Some wanted) = bytes_eq name wanted.name

-- whether the requirement counts in the environment
abbrev pub counts_in : Texts → Option RequirementParts → Bool
counts_in texts None = false
counts_in texts (Some wanted) = is_active wanted texts
