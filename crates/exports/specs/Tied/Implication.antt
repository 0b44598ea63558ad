-- Which conditions others are known to say.
-- Tied to `Says` by the contract of `says`; need not be read.
use Rattle.std.specs.Prelude.{◌==◌, ◌&&◌, ◌||◌, not, nat_eq, Bool, true, false, length, Option, Some, None}
use Rattle.std.specs.Cmp.Lexicographic.{pointwise}
use Rattle.std.specs.Ordering.{is_ge, is_le}
use Rattle.std.specs.Str.{bytes_eq}
use Rattle.markers.specs.Environment.{place_of}
use Rattle.markers.specs.declared.comparison.Comparison.{Comparison}
use Rattle.markers.specs.declared.comparison.Comparison.TheVariants as comparisons
use Rattle.markers.specs.declared.marker_atom.Operand.{Operand}
use Rattle.markers.specs.declared.marker_atom.Operand.TheVariants as operands
use Rattle.markers.specs.declared.marker_atom.MarkerOperator.{MarkerOperator}
use Rattle.markers.specs.declared.marker_atom.MarkerOperator.TheVariants as marker_operators
use Rattle.markers.specs.declared.variable.Variable.{Variable}
use Rattle.pep440.specs.Order.{public_cmp}
use Rattle.pep440.specs.Version.{VersionParts, is_post, is_pre}
use Rattle.pep440.specs.declared.specifier.Clause.{Clause}
use Rattle.pep440.specs.declared.specifier.Operator.{Operator}
use Rattle.pep440.specs.declared.specifier.Operator.TheVariants as operators
use Rattle.exports.specs.declared.condition.Condition.{Condition}
use Rattle.exports.specs.declared.condition.Condition.TheVariants.{Same, Matches, Holds}

-- the operator that matches nothing which this one matches with the same version
abbrev pub opposite_of : Operator → Option Operator
opposite_of operators.Compatible = None
opposite_of operators.Equal = Some operators.NotEqual
opposite_of operators.NotEqual = Some operators.Equal
opposite_of operators.EqualPrefix = Some operators.NotEqualPrefix
opposite_of operators.NotEqualPrefix = Some operators.EqualPrefix
opposite_of operators.AtMost = Some operators.Above
opposite_of operators.AtLeast = Some operators.Below
opposite_of operators.Below = Some operators.AtLeast
opposite_of operators.Above = Some operators.AtMost

abbrev pub is_same_operator : Operator → Operator → Bool
is_same_operator operators.Compatible operators.Compatible = true
is_same_operator operators.Equal operators.Equal = true
is_same_operator operators.NotEqual operators.NotEqual = true
is_same_operator operators.EqualPrefix operators.EqualPrefix = true
is_same_operator operators.NotEqualPrefix operators.NotEqualPrefix = true
is_same_operator operators.AtMost operators.AtMost = true
is_same_operator operators.AtLeast operators.AtLeast = true
is_same_operator operators.Below operators.Below = true
is_same_operator operators.Above operators.Above = true
is_same_operator operator wanted = false

-- no part but the epoch and the release
abbrev pub is_plain : VersionParts → Bool
is_plain version = not (is_pre version) && (not (is_post version) && (length version.local == 0))

-- the same epoch and the same release, to the number
abbrev pub has_release_of : VersionParts → VersionParts → Bool
has_release_of one other = (one.epoch == other.epoch) && pointwise nat_eq one.release other.release

abbrev pub is_same_plain : VersionParts → VersionParts → Bool
is_same_plain one other = is_plain one && (is_plain other && has_release_of one other)

-- the clauses are the same, with plain versions
abbrev pub is_same_clause : Clause → Clause → Bool
is_same_clause clause wanted = is_same_operator clause.operator wanted.operator && is_same_plain clause.version wanted.version

-- the lower bound is no less
abbrev pub is_from : VersionParts → VersionParts → Bool
is_from bound wanted = is_ge (public_cmp bound wanted)

-- the upper bound is no greater, and no pre-release where the other isn't
abbrev pub is_up_to : VersionParts → VersionParts → Bool
is_up_to bound wanted = is_le (public_cmp bound wanted) && (is_pre wanted || not (is_pre bound))

-- this operator is that of both clauses
abbrev pub are_both : Operator → Clause → Clause → Bool
are_both operator clause wanted = is_same_operator clause.operator operator && is_same_operator wanted.operator operator

abbrev pub does_follow : Clause → Clause → Bool
does_follow clause wanted =
    (are_both operators.AtLeast clause wanted && is_from clause.version wanted.version)
    || ((are_both operators.Below clause wanted && is_up_to clause.version wanted.version)
    || is_same_clause clause wanted)

abbrev pub is_same_comparison : Comparison → Comparison → Bool
is_same_comparison comparisons.Compatible comparisons.Compatible = true
is_same_comparison comparisons.Equal comparisons.Equal = true
is_same_comparison comparisons.NotEqual comparisons.NotEqual = true
is_same_comparison comparisons.AtMost comparisons.AtMost = true
is_same_comparison comparisons.AtLeast comparisons.AtLeast = true
is_same_comparison comparisons.Below comparisons.Below = true
is_same_comparison comparisons.Above comparisons.Above = true
is_same_comparison comparison wanted = false

abbrev pub is_same_marker_operator : MarkerOperator → MarkerOperator → Bool
is_same_marker_operator (marker_operators.Compare own) (marker_operators.Compare comparison) = is_same_comparison own comparison
is_same_marker_operator marker_operators.In marker_operators.In = true
is_same_marker_operator marker_operators.NotIn marker_operators.NotIn = true
is_same_marker_operator operator wanted = false

-- both are the same variable, or the same text
abbrev pub is_same_operand : Operand → Operand → Bool
is_same_operand (operands.Variable own) (operands.Variable variable) = place_of own == place_of variable
is_same_operand (operands.Quoted text) (operands.Quoted other) = bytes_eq text other
is_same_operand (operands.Variable own) (operands.Quoted other) = false
is_same_operand (operands.Quoted text) (operands.Variable variable) = false

-- no variable but this one stands there
abbrev pub has_no_other : Variable → Operand → Bool
has_no_other own (operands.Variable variable) = place_of own == place_of variable
has_no_other own (operands.Quoted text) = true

abbrev pub says : Condition → Condition → Bool
says (Same own) (Same variable) = place_of own == place_of variable
says (Same own) (Matches variable wanted) = place_of own == place_of variable
says (Matches own clause) (Matches variable wanted) = (place_of own == place_of variable) && does_follow clause wanted
says (Matches own clause) (Same variable) = false
says (Same own) (Holds left operator right) = has_no_other own left && has_no_other own right
says (Holds left operator right) (Holds first wanted second) = is_same_marker_operator operator wanted && (is_same_operand left first && is_same_operand right second)
says (Matches own clause) (Holds left operator right) = false
says (Holds left operator right) (Same variable) = false
says (Holds left operator right) (Matches variable clause) = false
