-- Which texts are a marker (PEP 508, "Grammar"), as a relation between a whole text and the tree.
use Rattle.std.specs.Prelude.{◌≡◌, ℕ, ◌==◌, ◌&&◌, ◌||◌, nat_le, not, Bool, true, false, List, [], ◌∷◌, ◌++◌, codes}
use Rattle.std.specs.Char.{is_ascii_alphabetic}
use Rattle.std.specs.List.{list_all}
use Rattle.markers.specs.Comparisons.{sign}
use Rattle.markers.specs.MarkerGrammar.{AreMarkerTokens}
use Rattle.lists.specs.Spaces.{is_space_or_tab}
use Rattle.markers.specs.MarkerTree.{Tree}
use Rattle.markers.specs.Variables.{variable_name}
use Rattle.markers.specs.declared.comparison.Comparison.TheVariants as comparisons
use Rattle.markers.specs.declared.marker_atom.Operand.TheVariants as operands
use Rattle.markers.specs.declared.marker_token.Side.TheVariants as sides
use Rattle.markers.specs.declared.marker_token.Token.{Token}
use Rattle.markers.specs.declared.marker_token.Token.TheVariants as tokens

-- `"` or `'`
abbrev pub is_quote : ℕ → Bool
is_quote b = (b == 34) || (b == 39)

-- a byte of a quoted text: printable ASCII without backslash (reqlock's own rule)
abbrev pub is_quotable : ℕ → Bool
is_quotable b = nat_le 32 b && nat_le b 126 && not (b == 92)

-- a byte that may stand between these quotes
abbrev pub is_inside : ℕ → ℕ → Bool
is_inside quote b = is_quotable b && not (b == quote)

-- a text in quotes of one kind, which do not stand in it
pub record IsQuoted (text inner : List ℕ) : Type 0 where
  pub quote : ℕ
  pub opens : is_quote quote ≡ true
  pub whole : text ≡ quote ∷ (inner ++ quote ∷ [])
  pub lawful : list_all (is_inside quote) inner ≡ true

-- how a token is written
abbrev pub IsToken : List ℕ → Token → Type 0
IsToken text (tokens.Side (sides.Operand (operands.Quoted inner))) = IsQuoted text inner
IsToken text (tokens.Side (sides.Operand (operands.Variable variable))) = text ≡ variable_name variable
IsToken text (tokens.Side sides.Extra) = text ≡ codes "extra"
IsToken text (tokens.Compare comparison) = text ≡ sign comparison
IsToken text tokens.Not = text ≡ codes "not"
IsToken text tokens.In = text ≡ codes "in"
IsToken text tokens.And = text ≡ codes "and"
IsToken text tokens.Or = text ≡ codes "or"
IsToken text tokens.Open = text ≡ codes "("
IsToken text tokens.Close = text ≡ codes ")"

-- a letter or `_`
abbrev pub is_word_byte : ℕ → Bool
is_word_byte b = is_ascii_alphabetic b || (b == 95)

-- `=` leads the text
abbrev pub starts_equal : List ℕ → Bool
starts_equal [] = false
starts_equal (b ∷ rest) = b == 61

-- a letter or `_` leads the text
abbrev pub starts_word : List ℕ → Bool
starts_word [] = false
starts_word (b ∷ rest) = is_word_byte b

-- whether what follows a token would make it another one: a longer word, or `<=` of `<`
abbrev pub goes_on : Token → List ℕ → Bool
goes_on (tokens.Side (sides.Operand (operands.Quoted inner))) rest = false
goes_on (tokens.Side (sides.Operand (operands.Variable variable))) rest = starts_word rest
goes_on (tokens.Side sides.Extra) rest = starts_word rest
goes_on (tokens.Compare comparisons.Below) rest = starts_equal rest
goes_on (tokens.Compare comparisons.Above) rest = starts_equal rest
goes_on (tokens.Compare comparison) rest = false
goes_on tokens.Not rest = starts_word rest
goes_on tokens.In rest = starts_word rest
goes_on tokens.And rest = starts_word rest
goes_on tokens.Or rest = starts_word rest
goes_on tokens.Open rest = false
goes_on tokens.Close rest = false

-- the text is these tokens, with spaces and tabs before each and behind the last
abbrev pub AreTokens : List ℕ → List Token → Type 0
AreTokens text [] = list_all is_space_or_tab text ≡ true
AreTokens text (t ∷ ts) =
    (spaces : List ℕ) × (first : List ℕ) × (rest : List ℕ) × (text ≡ spaces ++ (first ++ rest)) × (list_all is_space_or_tab spaces ≡ true)
    × IsToken first t × (goes_on t rest ≡ false) × AreTokens rest ts

-- the text spells the marker
pub record SpellsMarker (text : List ℕ) (t : Tree) : Type 0 where
  pub tokens : List Token
  pub are_tokens : AreTokens text tokens
  pub are_marker : AreMarkerTokens tokens t
