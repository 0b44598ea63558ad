-- The parts of a line of a requirements file (pip, "Requirements File Format").
use Rattle.std.specs.Prelude.{◌≡◌, ◌⊎◌, ℕ, zero, suc, ◌-◌, ◌<◌, ◌==◌, ◌&&◌, ◌||◌, nat_le, nat_lt, not, Bool, true, false, List, [], ◌∷◌, ◌++◌, length, take, drop, slice_index, Option, Some, None, if◌then◌else◌}
use Rattle.std.specs.List.{position_or_len}
pub use Rattle.lists.specs.Spaces.{is_space_or_tab, lead_of, tail_of, trim, trim_end, trim_start}

-- whether the text begins, or ends, with the byte
abbrev pub begins_with : ℕ → List ℕ → Bool
begins_with b text = slice_index text 0 == b

abbrev pub ends_with : ℕ → List ℕ → Bool
ends_with b text = slice_index text (length text - 1) == b

-- where the byte first stands, or the length of the text
abbrev pub place_of : ℕ → List ℕ → ℕ
place_of byte text = position_or_len (λ b. b == byte) text

-- what stands between two bytes that begin and end the text
abbrev pub inside : ℕ → ℕ → List ℕ → Option (List ℕ)
inside first last text =
    if nat_le 2 (length text) && (begins_with first text && ends_with last text) then Some (take (length text - 2) (drop 1 text)) else None

-- how a line ends: LF, CR and LF, or nothing
abbrev pub ending_of : List ℕ → List ℕ
ending_of line =
    if slice_index line (length line - 1) == 10 then
    if slice_index line (length line - 2) == 13 then 13 ∷ 10 ∷ [] else 10 ∷ []
    else []

-- what ends lines
abbrev pub IsEnding : List ℕ → Type 0
IsEnding ending = (ending ≡ 10 ∷ []) ⊎ (ending ≡ 13 ∷ 10 ∷ [])

-- the line, with this ending where it has none
abbrev pub ended : List ℕ → List ℕ → List ℕ
ended ending line = if length (ending_of line) == 0 then line ++ ending else line

-- the line without its ending
abbrev pub content_of : List ℕ → List ℕ
content_of line = take (length line - length (ending_of line)) line

-- a control character of one byte other than a tab
abbrev pub is_control : ℕ → Bool
is_control b = (nat_lt b 32 && not (b == 9)) || (b == 127)

-- whether an odd character begins with the byte before the rest: a control character other than a tab, U+0085 (in UTF-8 the bytes 194 133), U+2028 or U+2029 (226 128 168 and 226 128 169)
abbrev pub is_odd : ℕ → List ℕ → Bool
is_odd b rest =
    is_control b || (((b == 194) && (slice_index rest 0 == 133))
    || ((b == 226) && ((slice_index rest 0 == 128) && ((slice_index rest 1 == 168) || (slice_index rest 1 == 169)))))

unfoldable pub has_odd : List ℕ → Bool
has_odd [] = false
has_odd (b ∷ rest) = is_odd b rest || has_odd rest

-- whether a byte-order mark leads the text: U+FEFF, in UTF-8 the bytes 239 187 191
abbrev pub is_marked : List ℕ → Bool
is_marked text = (slice_index text 0 == 239) && ((slice_index text 1 == 187) && (slice_index text 2 == 191))

-- a comment may begin at the place: a `#` stands there, at the start or behind a space or a tab
abbrev pub opens_comment : List ℕ → ℕ → Bool
opens_comment content zero = slice_index content 0 == 35
opens_comment content (suc k) = (slice_index content (suc k) == 35) && is_space_or_tab (slice_index content k)

-- where the comment begins: at the first place where it may, or behind the content where it may at none
pub record IsCommentPlace (content : List ℕ) (place : ℕ) : Type 0 where
  pub before : (k : ℕ) → k < place → opens_comment content k ≡ false
  pub here : (place ≡ length content) ⊎ ((place < length content) × (opens_comment content place ≡ true))

-- the reading of that place from the left, where before the text stands a start or not; tied to `IsCommentPlace` by the law
-- `a_comment_begins_where_it_first_may`
unfoldable pub comment_place : Bool → List ℕ → ℕ
comment_place at_start [] = 0
comment_place at_start (b ∷ bs) = if at_start && (b == 35) then 0 else suc (comment_place (is_space_or_tab b) bs)

-- what stands before the comment, and the comment
abbrev pub before_comment : List ℕ → List ℕ
before_comment content = take (comment_place true content) content

abbrev pub comment_of : List ℕ → List ℕ
comment_of content = drop (comment_place true content) content
