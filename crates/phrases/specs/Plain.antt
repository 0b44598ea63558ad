-- What is written where there are no colours. All of it is reqlock's own rule.
use Rattle.std.specs.Prelude.{ℕ, ◌==◌, Bool, false, not, ◌&&◌, ◌||◌, List, [], ◌∷◌, ◌++◌, codes, encode_utf8, if◌then◌else◌}
use Rattle.std.specs.Char.{is_control}
use Rattle.std.specs.Fmt.{digits}
use Rattle.std.specs.Int.{is_in_range}
use Rattle.std.specs.List.{flat_map}
use Rattle.std.specs.Str.{chars}

-- a letter turns the direction of a line (Unicode, "Bidi_Control"), or ends a line or a paragraph
abbrev pub turns_line : ℕ → Bool
turns_line letter = letter == 0x61C || is_in_range 0x200E 0x200F letter || is_in_range 0x2028 0x202E letter || is_in_range 0x2066 0x2069 letter

-- a letter isn't written as it is: a control character but a tab, or one that turns or ends a line
abbrev pub is_escaped : ℕ → Bool
is_escaped letter = (is_control letter && not (letter == 9)) || turns_line letter

-- a letter as a terminal may have it: `\u{1b}` is one whose number is 1b in hexadecimal digits
abbrev pub plain_letter : ℕ → List ℕ
plain_letter letter = if is_escaped letter then codes "\\u{" ++ digits 16 false letter ++ codes "}" else encode_utf8 letter

-- a text as a terminal may have it
abbrev pub plain_text : List ℕ → List ℕ
plain_text text = flat_map plain_letter (chars text)

-- the line that tells whose table or refutation comes; none for the empty name
abbrev pub target_line : List ℕ → List ℕ
target_line [] = []
target_line (b ∷ rest) = codes "target " ++ (b ∷ rest) ++ codes "\n"

-- a name, with what was before a change and what is behind it
abbrev pub change_text : List ℕ → List ℕ → List ℕ → List ℕ
change_text name old new = name ++ codes " " ++ old ++ codes " -> " ++ new
