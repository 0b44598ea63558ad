-- Which tokens are a marker (PEP 508, "Grammar"), as a relation between all tokens and the tree.
use Rattle.std.specs.Prelude.{◌≡◌, ◌⊎◌, ℕ, Bool, true, false, List, [], ◌∷◌, ◌++◌, Option}
use Rattle.std.specs.Result.{result_ok}
use Rattle.markers.specs.MarkerAtoms.{Relation}
use Rattle.markers.specs.MarkerTree.{Tree, atom, all_of, any_of, Trees, no_trees, tree}
use Rattle.markers.specs.Names.{name_of}
use Rattle.markers.specs.declared.comparison.Comparison.TheVariants as comparisons
use Rattle.markers.specs.declared.marker_atom.Atom.{Atom}
use Rattle.markers.specs.declared.marker_atom.Atom.TheVariants as atoms
use Rattle.markers.specs.declared.marker_atom.Operand.{Operand}
use Rattle.markers.specs.declared.marker_atom.Operand.TheVariants.{Quoted}
use Rattle.markers.specs.declared.marker_atom.MarkerOperator.{MarkerOperator}
use Rattle.markers.specs.declared.marker_atom.MarkerOperator.TheVariants as operators
use Rattle.markers.specs.declared.marker_token.Side.TheVariants as sides
use Rattle.markers.specs.declared.marker_token.Token.{Token}
use Rattle.markers.specs.declared.marker_token.Token.TheVariants as tokens

-- an operand is one token
abbrev pub operand_token : Operand → Token
operand_token operand = tokens.Side (sides.Operand operand)

-- `not in` is two tokens, any other operator one
abbrev pub operator_tokens : MarkerOperator → List Token
operator_tokens (operators.Compare comparison) = tokens.Compare comparison ∷ []
operator_tokens operators.In = tokens.In ∷ []
operator_tokens operators.NotIn = tokens.Not ∷ tokens.In ∷ []

-- operand, operator, operand
abbrev pub relation_tokens : Relation → List Token
relation_tokens r = operand_token r.left ∷ (operator_tokens r.operator ++ operand_token r.right ∷ [])

-- `==` or `!=`
abbrev pub equality : Bool → Token
equality true = tokens.Compare comparisons.Equal
equality false = tokens.Compare comparisons.NotEqual

-- `extra` on either side of a quoted text that is the name, or is no name where there is none (PEP 685)
pub record IsExtra (ts : List Token) (equal : Bool) (name : Option (List ℕ)) : Type 0 where
  pub text : List ℕ
  pub is_name : result_ok (name_of text) ≡ name
  pub sides : (ts ≡ tokens.Side sides.Extra ∷ equality equal ∷ operand_token (Quoted text) ∷ []) ⊎ (ts ≡ operand_token (Quoted text) ∷ equality equal ∷ tokens.Side sides.Extra ∷ [])

abbrev pub IsAtom : List Token → Atom → Type 0
IsAtom ts (atoms.Relation r) = ts ≡ relation_tokens r
IsAtom ts (atoms.Extra equal name) = IsExtra ts equal name

abbrev mutual
  -- an atom, or a marker in parentheses
  pub IsMember : List Token → Tree → Type 0
  IsMember ts (atom a) = IsAtom ts a
  IsMember ts (all_of us) = ⊥
  IsMember ts (any_of us) = (inner : List Token) × (ts ≡ tokens.Open ∷ (inner ++ tokens.Close ∷ [])) × AreConjunctions inner us

  -- one member, or several with `and` between them
  pub AreMembers : List Token → Trees → Type 0
  AreMembers ts no_trees = ⊥
  AreMembers ts (tree t no_trees) = IsMember ts t
  AreMembers ts (tree t (tree u us)) = (first : List Token) × (rest : List Token) × (ts ≡ first ++ tokens.And ∷ rest) × IsMember first t × AreMembers rest (tree u us)

  pub IsConjunction : List Token → Tree → Type 0
  IsConjunction ts (atom a) = ⊥
  IsConjunction ts (all_of us) = AreMembers ts us
  IsConjunction ts (any_of us) = ⊥

  -- one conjunction, or several with `or` between them
  pub AreConjunctions : List Token → Trees → Type 0
  AreConjunctions ts no_trees = ⊥
  AreConjunctions ts (tree t no_trees) = IsConjunction ts t
  AreConjunctions ts (tree t (tree u us)) = (first : List Token) × (rest : List Token) × (ts ≡ first ++ tokens.Or ∷ rest) × IsConjunction first t × AreConjunctions rest (tree u us)

-- the tokens are the marker
abbrev pub AreMarkerTokens : List Token → Tree → Type 0
AreMarkerTokens ts (atom a) = ⊥
AreMarkerTokens ts (all_of us) = ⊥
AreMarkerTokens ts (any_of us) = AreConjunctions ts us
