-- Which operators and clauses are opposite.
-- Tied to `IsTurned` by the contract of `may_turn`; need not be read.
use Rattle.std.specs.Prelude.{ℕ, ◌==◌, ◌&&◌, Bool, true, false, List, Option, Some, None}
use Rattle.std.specs.List.{list_any}
use Rattle.markers.specs.declared.comparison.Comparison.TheVariants as comparisons
use Rattle.markers.specs.declared.marker_atom.Operand.{Operand}
use Rattle.markers.specs.declared.marker_atom.Operand.TheVariants as operands
use Rattle.markers.specs.declared.marker_atom.MarkerOperator.{MarkerOperator}
use Rattle.markers.specs.declared.marker_atom.MarkerOperator.TheVariants as marker_operators
use Rattle.pep440.specs.declared.specifier.Clause.{Clause}
use Rattle.pep440.specs.declared.specifier.Operator.{Operator}
use Rattle.exports.specs.Tied.Implication.{is_same_operator, is_same_plain, opposite_of}

-- the operator of markers that holds of texts exactly where this one doesn't, if there is one
abbrev pub opposite_marker_operator : MarkerOperator → Option MarkerOperator
opposite_marker_operator (marker_operators.Compare comparisons.Compatible) = None
opposite_marker_operator (marker_operators.Compare comparisons.Equal) = Some (marker_operators.Compare comparisons.NotEqual)
opposite_marker_operator (marker_operators.Compare comparisons.NotEqual) = Some (marker_operators.Compare comparisons.Equal)
opposite_marker_operator (marker_operators.Compare comparisons.AtMost) = Some (marker_operators.Compare comparisons.Above)
opposite_marker_operator (marker_operators.Compare comparisons.AtLeast) = Some (marker_operators.Compare comparisons.Below)
opposite_marker_operator (marker_operators.Compare comparisons.Below) = Some (marker_operators.Compare comparisons.AtLeast)
opposite_marker_operator (marker_operators.Compare comparisons.Above) = Some (marker_operators.Compare comparisons.AtMost)
opposite_marker_operator marker_operators.In = Some marker_operators.NotIn
opposite_marker_operator marker_operators.NotIn = Some marker_operators.In

-- what a comparison reads on its right is the same in every environment, and `in` reads nothing
abbrev pub is_fixed : MarkerOperator → Operand → Bool
is_fixed (marker_operators.Compare comparison) (operands.Variable variable) = false
is_fixed (marker_operators.Compare comparison) (operands.Quoted text) = true
is_fixed marker_operators.In right = true
is_fixed marker_operators.NotIn right = true

-- there is an operator, and it is this one
abbrev pub has_operator : Option Operator → Operator → Bool
has_operator None wanted = false
has_operator (Some operator) wanted = is_same_operator operator wanted

-- the operators are opposite, and the versions the same plain one
abbrev pub is_opposed : Clause → Clause → Bool
is_opposed clause other = has_operator (opposite_of clause.operator) other.operator && is_same_plain clause.version other.version

-- one of the second clauses is opposed to one of the first
abbrev pub has_opposed : List Clause → Clause → Bool
has_opposed clauses other = list_any (λ clause. is_opposed clause other) clauses

abbrev pub are_opposed : List Clause → List Clause → Bool
are_opposed clauses opposed = list_any (has_opposed clauses) opposed
