-- How conditions are told: as relations of a marker.
-- Tied to `IsMarkerOf` by the contract of `marker_text_of`; need not be read.
use Rattle.std.specs.Prelude.{ℕ, ◌==◌, Bool, is_some, List, [], ◌∷◌, ◌++◌, codes, length, map, if◌then◌else◌}
use Rattle.std.specs.List.{flat_map}
use Rattle.markers.specs.Comparisons.{clauses_read, sign}
use Rattle.markers.specs.Environment.{Texts, joined, text_of}
use Rattle.markers.specs.MarkerAtoms.{Relation}
use Rattle.markers.specs.Tied.MarkerTokens.{comparison_of}
use Rattle.markers.specs.Variables.{variable_name}
use Rattle.markers.specs.declared.comparison.Comparison.TheVariants as comparisons
use Rattle.markers.specs.declared.marker_atom.Operand.{Operand}
use Rattle.markers.specs.declared.marker_atom.Operand.TheVariants as operands
use Rattle.markers.specs.declared.marker_atom.MarkerOperator.{MarkerOperator}
use Rattle.markers.specs.declared.marker_atom.MarkerOperator.TheVariants as marker_operators
use Rattle.markers.specs.declared.variable.Variable.{Variable}
use Rattle.pep440.specs.Canonical.{canonical}
use Rattle.pep440.specs.SetGrammar.{star}
use Rattle.pep440.specs.declared.specifier.Clause.{Clause}
use Rattle.exports.specs.declared.condition.Condition.{Condition}
use Rattle.exports.specs.declared.condition.Condition.TheVariants.{Same, Matches, Holds}

-- what is written behind the sign of a clause
abbrev pub version_told : Clause → List ℕ
version_told clause = canonical clause.version ++ star clause.operator

-- a variable, and a text behind it
abbrev pub related : Variable → MarkerOperator → List ℕ → Relation
related variable operator text = record { left = operands.Variable variable; operator = operator; right = operands.Quoted text }

-- the text stands in that of the variable
abbrev pub has : Variable → List ℕ → Relation
has variable text = record { left = operands.Quoted text; operator = marker_operators.In; right = operands.Variable variable }

-- that a variable has this text: by `==`, or where a version would be compared, by each of both standing in the other
abbrev pub same_told : Variable → List ℕ → Bool → List Relation
same_told variable text reads = if reads then related variable marker_operators.In text ∷ has variable text ∷ [] else related variable (marker_operators.Compare comparisons.Equal) text ∷ []

-- the relations by which a condition is told
abbrev pub told : Texts → Condition → List Relation
told environment (Same variable) = same_told variable (text_of environment variable) (is_some (clauses_read comparisons.Equal (text_of environment variable)))
told environment (Matches variable clause) = related variable (marker_operators.Compare (comparison_of clause.operator)) (version_told clause) ∷ []
told environment (Holds left operator right) = record { left = left; operator = operator; right = right } ∷ []

-- ---- texts

abbrev pub operand_told : Operand → List ℕ
operand_told (operands.Variable variable) = variable_name variable
operand_told (operands.Quoted text) = codes "\"" ++ (text ++ codes "\"")

abbrev pub operator_told : MarkerOperator → List ℕ
operator_told (marker_operators.Compare comparison) = sign comparison
operator_told marker_operators.In = codes "in"
operator_told marker_operators.NotIn = codes "not in"

abbrev pub relation_told : Relation → List ℕ
relation_told r = operand_told r.left ++ (codes " " ++ (operator_told r.operator ++ (codes " " ++ operand_told r.right)))

-- a name, an operator and a text in quotes
abbrev pub related_told : List ℕ → List ℕ → List ℕ → List ℕ
related_told name operator text = name ++ (codes " " ++ (operator ++ (codes " \"" ++ (text ++ codes "\""))))

-- one more, with `and` before it where another stands there
abbrev pub with_more : List ℕ → List ℕ → List ℕ
with_more text next = if length text == 0 then next else text ++ (codes " and " ++ next)

-- several more
abbrev pub with_all : List ℕ → List (List ℕ) → List ℕ
with_all text [] = text
with_all text (next ∷ rest) = with_all (with_more text next) rest

-- the relations of conditions, joined by `and`
abbrev pub conditions_told : Texts → List Condition → List ℕ
conditions_told environment conditions = joined (map relation_told (flat_map (told environment) conditions))
