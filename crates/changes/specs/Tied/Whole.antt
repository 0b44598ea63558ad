-- Whether lines that read are those into which a text is cut, as it is decided.
-- Tied to `AreLines` by the contract of `Change::apply`; need not be read.
use Rattle.std.specs.Prelude.{◌≡◌, ℕ, ◌-◌, ◌==◌, ◌&&◌, not, Bool, true, List, [], ◌∷◌, length, Some, slice_get}
use Rattle.pep508.specs.Parts.{ending_of}

-- a line has an ending
abbrev pub is_ended : List ℕ → Bool
is_ended line = not (length (ending_of line) == 0)

-- the last line has one, where there is a line
abbrev pub LastIsEnded : List (List ℕ) → Type 0
LastIsEnded lines = (line : List ℕ) → slice_get lines (length lines - 1) ≡ Some line → is_ended line ≡ true

-- a line has an ending, or a byte at least where no line is behind it
abbrev pub is_whole : List ℕ → List (List ℕ) → Bool
is_whole line [] = not (length line == 0)
is_whole line (next ∷ rest) = is_ended line

-- each line has an ending, and the last one a byte at least
abbrev pub are_whole : List (List ℕ) → Bool
are_whole [] = true
are_whole (line ∷ rest) = is_whole line rest && are_whole rest
