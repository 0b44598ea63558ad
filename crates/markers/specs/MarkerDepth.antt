-- How deep the parentheses of a marker nest (reqlock's own rule).
use Rattle.std.specs.Prelude.{ℕ, ◌+◌, ◌==◌, filter, is_none, length, map, nat_lt, Bool, List, [], ◌∷◌, Option, Some, None, if◌then◌else◌}
use Rattle.std.specs.List.{list_any}
use Rattle.markers.specs.MarkerSpelling.{is_quote}

-- the quote that encloses what follows a byte, where one does
abbrev pub quote_after : Option ℕ → ℕ → Option ℕ
quote_after None b = if is_quote b then Some b else None
quote_after (Some q) b = if b == q then None else Some q

-- the bytes of a text that stand outside quotes, where one may be open before it; a quote that isn't closed
-- runs to the end
abbrev pub outside : Option ℕ → List ℕ → List ℕ
outside quote [] = []
outside quote (b ∷ rest) = if is_none quote then b ∷ outside (quote_after quote b) rest else outside (quote_after quote b) rest

-- how many parentheses are opened and closed outside quotes
abbrev pub count_opened : List ℕ → ℕ
count_opened text = length (filter (λ b. b == 40) (outside None text))

abbrev pub count_closed : List ℕ → ℕ
count_closed text = length (filter (λ b. b == 41) (outside None text))

-- more than 64 parentheses outside quotes are open at the end of a text
abbrev pub leaves_too_many : List ℕ → Bool
leaves_too_many text = nat_lt (count_closed text + 64) (count_opened text)

-- what a text begins with, from nothing to the whole
abbrev pub beginnings : List ℕ → List (List ℕ)
beginnings [] = [] ∷ []
beginnings (b ∷ rest) = [] ∷ map (λ beginning. b ∷ beginning) (beginnings rest)

-- some beginning of the text has more than 64 open parentheses outside quotes
unfoldable pub is_too_deep : List ℕ → Bool
is_too_deep text = list_any leaves_too_many (beginnings text)
