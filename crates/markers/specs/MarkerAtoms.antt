-- Atoms of markers (PEP 508, "Environment Markers").
use Rattle.std.specs.Prelude.{ℕ, ◌&&◌, ◌||◌, nat_eq, not, Bool, true, false, List, [], ◌∷◌, Option, Some, None}
use Rattle.std.specs.Str.{bytes_eq}
use Rattle.markers.specs.Comparisons.{compares}
use Rattle.markers.specs.Environment.{Texts, text_of}
use Rattle.markers.specs.declared.marker_atom.Operand.{Operand}
use Rattle.markers.specs.declared.marker_atom.Operand.TheVariants.{Variable, Quoted}
use Rattle.markers.specs.declared.marker_atom.MarkerOperator.{MarkerOperator}
use Rattle.markers.specs.declared.marker_atom.MarkerOperator.TheVariants.{Compare, In, NotIn}

-- two operands with an operator between them
pub record Relation : Type 0 where
  pub left : Operand
  pub operator : MarkerOperator
  pub right : Operand

-- the text that an operand has
abbrev pub operand_text : Texts → Operand → List ℕ
operand_text texts (Variable variable) = text_of texts variable
operand_text texts (Quoted text) = text

-- whether a text begins with another
abbrev pub begins_with : List ℕ → List ℕ → Bool
begins_with text [] = true
begins_with [] (c ∷ part) = false
begins_with (b ∷ text) (c ∷ part) = nat_eq b c && begins_with text part

-- whether a text has another in it
abbrev pub contains : List ℕ → List ℕ → Bool
contains [] part = begins_with [] part
contains (b ∷ text) part = begins_with (b ∷ text) part || contains text part

-- whether an operator relates the left text to the right one
abbrev pub relates : MarkerOperator → List ℕ → List ℕ → Bool
relates (Compare comparison) left right = compares comparison left right
relates In left right = contains right left
relates NotIn left right = not (contains right left)

abbrev pub relation_holds : Relation → Texts → Bool
relation_holds r texts = relates r.operator (operand_text texts r.left) (operand_text texts r.right)

-- whether the extra that is asked has this name; a text that is no name names no extra, and where none is asked no name is its (PEP 685)
abbrev pub is_asked : Option (List ℕ) → Option (List ℕ) → Bool
is_asked (Some name) (Some extra) = bytes_eq name extra
is_asked (Some name) None = false
is_asked None extra = false
