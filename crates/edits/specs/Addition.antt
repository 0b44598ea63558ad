-- What an added line makes of the lines. All of it is reqlock's own rule.
use Rattle.std.specs.Prelude.{ℕ, ◌==◌, List, [], ◌∷◌, ◌++◌, length, Option, None, if◌then◌else◌}
use Rattle.std.specs.List.{list_any, position_from}
use Rattle.pep508.specs.Parts.{ended, ending_of}
use Rattle.pep508.specs.Requirement.{RequirementParts}
use Rattle.pep508.specs.Required.{is_on, required_by}

-- the requirement that a text is which is to be a line: it has no LF
abbrev pub requirement_in : List ℕ → Option RequirementParts
requirement_in text = if list_any (λ b. b == 10) text then None else required_by text

-- the number, from 1, of the first line on the name
abbrev pub line_number : List ℕ → List (List ℕ) → Option ℕ
line_number name lines = position_from (λ line. is_on name (required_by line)) 1 lines

-- the ending of the first line that has one, else LF
abbrev pub usual_ending : List (List ℕ) → List ℕ
usual_ending [] = 10 ∷ []
usual_ending (line ∷ rest) = if length (ending_of line) == 0 then usual_ending rest else ending_of line

-- the lines, the last of them with this ending where it has none
abbrev pub last_ended : List ℕ → List (List ℕ) → List (List ℕ)
last_ended ending [] = []
last_ended ending (line ∷ []) = ended ending line ∷ []
last_ended ending (line ∷ next ∷ rest) = line ∷ last_ended ending (next ∷ rest)

-- the lines with the text as their last one; the text has no LF, so it gets the ending
abbrev pub with_line : List (List ℕ) → List ℕ → List (List ℕ)
with_line lines text = last_ended (usual_ending lines) lines ++ ended (usual_ending lines) text ∷ []
