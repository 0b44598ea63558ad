-- The lines on a name, and what becomes of the lines where there is one. All of it is reqlock's own rule.
use Rattle.std.specs.Prelude.{ℕ, not, Bool, List, map, filter, count_by, if◌then◌else◌}
use Rattle.std.specs.Result.{is_ok}
use Rattle.pep508.specs.Requirement.{specifier_of}
use Rattle.pep508.specs.Slices.{joined, slices_of, with_version}
use Rattle.pep508.specs.Required.{is_on, required_by}

-- how many lines are on a name, active or not
abbrev pub count_on : List ℕ → List (List ℕ) → ℕ
count_on name lines = count_by (λ line. is_on name (required_by line)) lines

-- the lines without the one on the name, each with its ending
abbrev pub without_line : List ℕ → List (List ℕ) → List (List ℕ)
without_line name lines = filter (λ line. not (is_on name (required_by line))) lines

-- whether a text reads as a set of specifiers without parentheses; it may be blank, and space may stand around it
abbrev pub is_specifier : List ℕ → Bool
is_specifier text = is_ok (specifier_of text)

-- a line, where it is on the name with these specifiers for its version part, or directly behind name and extras where it has
-- none; all else stays
abbrev pub line_with : List ℕ → List ℕ → List ℕ → List ℕ
line_with name specifiers line = if is_on name (required_by line) then joined (with_version specifiers (slices_of line)) else line

-- the lines, the one on the name with these specifiers
abbrev pub with_set_on : List ℕ → List ℕ → List (List ℕ) → List (List ℕ)
with_set_on name specifiers lines = map (line_with name specifiers) lines
