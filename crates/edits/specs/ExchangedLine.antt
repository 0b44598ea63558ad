-- A line in the place of the one on a name. All of it is reqlock's own rule.
use Rattle.std.specs.Prelude.{ℕ, List, ◌++◌, map, Option, Some, None, if◌then◌else◌}
use Rattle.std.specs.Option.{option_map, option_or}
use Rattle.std.specs.Str.{bytes_eq}
use Rattle.markers.specs.Names.{normal_of}
use Rattle.pep508.specs.Parts.{ending_of}
use Rattle.pep508.specs.Requirement.{RequirementParts}
use Rattle.edits.specs.Addition.{line_number}
use Rattle.edits.specs.Refused.{refused_name}
use Rattle.pep508.specs.Required.{is_on, required_by}
use Rattle.states.specs.declared.refusal.Refusal.{Refusal}
use Rattle.states.specs.declared.refusal.Refusal.TheVariants.{AlreadyPresent, BadText}

-- of a requirement in the place of the one on a name: no other line may have its name
abbrev pub refused_other : List (List ℕ) → List ℕ → RequirementParts → Option Refusal
refused_other lines name wanted = if bytes_eq wanted.name name then None else option_map AlreadyPresent (line_number wanted.name lines)

-- of a line in the place of the one on the name that a text is, given what it requires
abbrev pub refused_exchange : List (List ℕ) → List ℕ → Option RequirementParts → Option Refusal
refused_exchange lines name None = Some BadText
refused_exchange lines name (Some wanted) = option_or (refused_name lines name) (refused_other lines (normal_of name) wanted)

-- a line, where it is on the name the text with its ending
abbrev pub exchanged : List ℕ → List ℕ → List ℕ → List ℕ
exchanged name text line = if is_on name (required_by line) then text ++ ending_of line else line

-- the lines, with a text in the place of the one on a name; its ending stays
abbrev pub with_line_on : List ℕ → List ℕ → List (List ℕ) → List (List ℕ)
with_line_on name text lines = map (exchanged name text) lines
