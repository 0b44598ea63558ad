-- Names of projects and extras.
use Rattle.std.specs.Prelude.{ℕ, ◌-◌, ◌==◌, ◌&&◌, ◌||◌, Bool, List, filter, length, map, slice_index, nat_lt, Result, Ok, Err, if◌then◌else◌}
use Rattle.std.specs.Char.{is_ascii_alphanumeric, to_ascii_lowercase}
use Rattle.std.specs.List.{join_with_byte, list_all, slice_split}
use Rattle.std.specs.Str.{bytes_eq}
use Rattle.markers.specs.declared.fault.Cause.{Cause}
use Rattle.markers.specs.declared.fault.Cause.TheVariants.{BadName}

-- what stands between the words of a name (PEP 503, "Normalized Names")
abbrev pub is_separator : ℕ → Bool
is_separator b = (b == 45) || (b == 95) || (b == 46)

-- a byte of a name (PEP 508, "Names")
abbrev pub is_name_byte : ℕ → Bool
is_name_byte b = is_ascii_alphanumeric b || is_separator b

-- a name: letters, digits and separators, with a letter or a digit at both ends (PEP 508, "Names")
abbrev pub is_name : List ℕ → Bool
is_name text = nat_lt 0 (length text) && list_all is_name_byte text && is_ascii_alphanumeric (slice_index text 0) && is_ascii_alphanumeric (slice_index text (length text - 1))

-- the words of a name: what stands between its longest runs of separators
abbrev pub words_of : List ℕ → List (List ℕ)
words_of name = filter (λ word. nat_lt 0 (length word)) (slice_split is_separator name)

-- the normal form of a name: its words in lower case, with a hyphen between them (PEP 503, "Normalized Names"; PEP 685 for extras)
unfoldable pub normal_of : List ℕ → List ℕ
normal_of name = join_with_byte 45 (map (map to_ascii_lowercase) (words_of name))

-- a name in its normal form
abbrev pub is_normal : List ℕ → Bool
is_normal name = is_name name && bytes_eq (normal_of name) name

-- the name that a text is, in its normal form
abbrev pub name_of : List ℕ → Result (List ℕ) Cause
name_of text = if is_name text then Ok (normal_of text) else Err BadName
