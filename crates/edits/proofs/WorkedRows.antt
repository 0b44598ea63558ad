-- Worked values of the definitions.
use Rattle.std.specs.Prelude.{◌≡◌, [], ◌∷◌, Some, None, codes, refl}
use Rattle.pep508.specs.Parts.{comment_place, has_odd}
use Rattle.pep508.specs.Requirement.{asked_in, requirement_of, wanted_by}
use Rattle.pep508.specs.Slices.{slices_with}
use Rattle.markers.specs.Names.{normal_of}
use Rattle.edits.specs.Addition.{line_number, requirement_in, with_line}

-- an added line ends as the first line with an ending does, and a last line without one gets it
ending_row : with_line (codes "# web\r\n" ∷ codes "B_b >=1 # pin\r\n" ∷ codes "a" ∷ []) (codes "c") ≡ codes "# web\r\n" ∷ codes "B_b >=1 # pin\r\n" ∷ codes "a\r\n" ∷ codes "c\r\n" ∷ []
ending_row = refl

empty_row : with_line [] (codes "c") ≡ codes "c\n" ∷ []
empty_row = refl

-- a text with an LF can't be a line, nor can one that requires nothing
line_feed_row : requirement_in (codes "c\n") ≡ None
line_feed_row = refl

comment_row : requirement_in (codes "# c") ≡ None
unfolding requirement_of wanted_by comment_place has_odd
comment_row = refl

-- names compare in their normal form, and lines are numbered from 1
number_row : line_number (codes "b-b") (codes "# web\n" ∷ codes "B_b # pin\n" ∷ []) ≡ Some 2
unfolding requirement_of wanted_by comment_place has_odd asked_in slices_with normal_of
number_row = refl
