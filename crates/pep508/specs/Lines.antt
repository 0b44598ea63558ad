-- The lines of a requirements file (pip, "Requirements File Format").
use Rattle.std.specs.Prelude.{◌≡◌, ℕ, ◌-◌, ◌<◌, ◌==◌, Bool, true, false, List, [], ◌∷◌, length, take, slice_index, if◌then◌else◌}
use Rattle.std.specs.List.{AllByRecursion, list_any, onto_first}

-- whether an LF stands in the text, and whether it is the last byte
abbrev pub has_line_feed : List ℕ → Bool
has_line_feed text = list_any (λ b. b == 10) text

abbrev pub ends_in_line_feed : List ℕ → Bool
ends_in_line_feed text = slice_index text (length text - 1) == 10

-- lines as a text is cut into them: none is empty, an LF stands only at a line's end, and each line but the last ends
-- with one. A text has one such list that joins to it, by the law `a_text_has_its_lines`.
pub record AreLines (lines : List (List ℕ)) : Type 0 where
  pub some : AllByRecursion (λ line. 0 < length line) lines
  pub inside : AllByRecursion (λ line. has_line_feed (take (length line - 1) line) ≡ false) lines
  pub ended : AllByRecursion (λ line. ends_in_line_feed line ≡ true) (take (length lines - 1) lines)

-- the bytes cut after each LF; a rest without LF is a last line without ending
unfoldable pub lines_of : List ℕ → List (List ℕ)
lines_of [] = []
lines_of (b ∷ rest) = if b == 10 then (b ∷ []) ∷ lines_of rest else onto_first b (lines_of rest)
