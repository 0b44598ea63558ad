-- Reading the tokens of a marker from left to right, and how deep its parentheses nest.
-- Tied to `AreTokens` by the law `a_text_reads_as_the_marker_that_it_spells`, and to `is_too_deep` by the
-- contract of the code's `is_too_deep`; need not be read.
use Rattle.std.specs.Prelude.{ℕ, zero, suc, ◌+◌, ◌-◌, ◌==◌, ◌&&◌, ◌||◌, nat_lt, Bool, false, List, [], ◌∷◌, length, codes, is_none, Option, Some, None, if◌then◌else◌}
use Rattle.std.specs.Option.{option_map}
use Rattle.std.specs.Str.{bytes_eq}
use Rattle.lists.specs.Spaces.{is_space_or_tab}
use Rattle.pep440.specs.SetGrammar.{sign}
use Rattle.pep440.specs.Tied.Sets.{operator_of}
use Rattle.pep440.specs.declared.specifier.Operator.{Operator}
use Rattle.pep440.specs.declared.specifier.Operator.TheVariants as operators
use Rattle.markers.specs.Environment.{variable_named}
use Rattle.markers.specs.MarkerDepth.{quote_after}
use Rattle.markers.specs.MarkerSpelling.{is_quotable, is_quote, is_word_byte}
use Rattle.markers.specs.declared.comparison.Comparison.{Comparison}
use Rattle.markers.specs.declared.comparison.Comparison.TheVariants as comparisons
use Rattle.markers.specs.declared.marker_atom.Operand.TheVariants as operands
use Rattle.markers.specs.declared.marker_token.Side.TheVariants as sides
use Rattle.markers.specs.declared.marker_token.Token.{Token}
use Rattle.markers.specs.declared.marker_token.Token.TheVariants as tokens

-- ---- how deep parentheses nest

-- whether more than 64 parentheses are open at some place, where so many were begun and ended before the text; those in quotes do not count, and a quote that isn't closed runs to the end
abbrev pub is_deep_from : Option ℕ → ℕ → ℕ → List ℕ → Bool
is_deep_from quote begun ended [] = false
is_deep_from quote begun ended (b ∷ rest) =
    if is_none quote && (b == 40) then nat_lt (ended + 64) (begun + 1) || is_deep_from quote (begun + 1) ended rest
    else (if is_none quote && (b == 41) then is_deep_from quote begun (ended + 1) rest
    else is_deep_from (quote_after quote b) begun ended rest)

-- ---- tokens, each with the number of its bytes behind the first

-- the text up to the quote that ends it
abbrev pub quoted_text : ℕ → List ℕ → Option (List ℕ)
quoted_text q [] = None
quoted_text q (b ∷ rest) =
    if b == q then Some [] else (if is_quotable b then option_map (λ text. b ∷ text) (quoted_text q rest) else None)

abbrev pub quoted_at : ℕ → List ℕ → Option (Token × ℕ)
quoted_at q rest =
    option_map (λ text. (tokens.Side (sides.Operand (operands.Quoted text)), length text + 1)) (quoted_text q rest)

-- the longest word that a text begins with
abbrev pub word_of : List ℕ → List ℕ
word_of [] = []
word_of (b ∷ rest) = if is_word_byte b then b ∷ word_of rest else []

-- the token that a word is; any word that is no other has to be a variable
abbrev pub word_token : List ℕ → Option Token
word_token word =
    if bytes_eq word (codes "and") then Some tokens.And
    else (if bytes_eq word (codes "or") then Some tokens.Or
    else (if bytes_eq word (codes "not") then Some tokens.Not
    else (if bytes_eq word (codes "in") then Some tokens.In
    else (if bytes_eq word (codes "extra") then Some (tokens.Side sides.Extra)
    else option_map (λ variable. tokens.Side (sides.Operand (operands.Variable variable))) (variable_named word)))))

abbrev pub word_at : List ℕ → Option (Token × ℕ)
word_at text = option_map (λ token. (token, length (word_of text) - 1)) (word_token (word_of text))

-- the comparison that is written as an operator is before its version
abbrev pub comparison_of : Operator → Comparison
comparison_of operators.Compatible = comparisons.Compatible
comparison_of operators.Equal = comparisons.Equal
comparison_of operators.NotEqual = comparisons.NotEqual
comparison_of operators.EqualPrefix = comparisons.Equal
comparison_of operators.NotEqualPrefix = comparisons.NotEqual
comparison_of operators.AtMost = comparisons.AtMost
comparison_of operators.AtLeast = comparisons.AtLeast
comparison_of operators.Below = comparisons.Below
comparison_of operators.Above = comparisons.Above

-- the longest comparison that a text begins with
abbrev pub sign_at : List ℕ → Option (Token × ℕ)
sign_at text = option_map (λ found. (tokens.Compare (comparison_of found.0), length (sign found.0) - 1)) (operator_of text)

-- the token that a text begins with
unfoldable pub token_at : List ℕ → Option (Token × ℕ)
token_at [] = None
token_at (b ∷ rest) =
    if is_quote b then quoted_at b rest
    else (if is_word_byte b then word_at (b ∷ rest)
    else (if b == 40 then Some (tokens.Open, 0) else (if b == 41 then Some (tokens.Close, 0) else sign_at (b ∷ rest))))

-- a token before others
abbrev pub before_tokens : Option (Token × ℕ) → (ℕ → Option (List Token)) → Option (List Token)
before_tokens None more = None
before_tokens (Some found) more = option_map (λ rest. found.0 ∷ rest) (more found.1)

-- the tokens of a text behind its first `skipped` bytes
unfoldable pub tokens_from : ℕ → List ℕ → Option (List Token)
tokens_from skipped [] = Some []
tokens_from (suc k) (b ∷ rest) = tokens_from k rest
tokens_from zero (b ∷ rest) =
    if is_space_or_tab b then tokens_from 0 rest else before_tokens (token_at (b ∷ rest)) (λ behind. tokens_from behind rest)

-- the tokens of a text
abbrev pub tokens_of : List ℕ → Option (List Token)
tokens_of text = tokens_from 0 text
