-- Reading a name from left to right.
-- Tied to `normal_of` by the contract of `Name::read`; need not be read.
use Rattle.std.specs.Prelude.{ℕ, Bool, false, List, [], ◌∷◌, ◌++◌, if◌then◌else◌}
use Rattle.std.specs.Char.{to_ascii_lowercase}
use Rattle.markers.specs.Names.{is_separator}

-- whether a separator leads the text
abbrev pub starts_separated : List ℕ → Bool
starts_separated [] = false
starts_separated (b ∷ rest) = is_separator b

-- what stands in the normal form for a byte before others: a letter in lower case, one hyphen for the last of a run of separators
abbrev pub normal_byte : ℕ → List ℕ → List ℕ
normal_byte b rest =
    if is_separator b then if starts_separated rest then [] else 45 ∷ []
    else to_ascii_lowercase b ∷ []

-- the normal form, a byte at a time
unfoldable pub normal_read : List ℕ → List ℕ
normal_read [] = []
normal_read (b ∷ rest) = normal_byte b rest ++ normal_read rest
