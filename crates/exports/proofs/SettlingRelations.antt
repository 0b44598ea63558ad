-- What settles a relation of a marker: itself, or its opposite.
use Rattle.std.proofs.Common.{◌≡◌, ◌∙◌, true, false, not, List, Option, Some, None, ap, subst, sym}
use Rattle.markers.specs.Comparisons.{clauses_read, decides, text_compares, version_read}
use Rattle.markers.specs.Environment.{Texts}
use Rattle.markers.specs.MarkerAtoms.{Relation, operand_text, relates, relation_holds}
use Rattle.markers.specs.Tied.Known.{known_clauses}
use Rattle.markers.specs.declared.marker_atom.Operand.{Operand}
use Rattle.markers.specs.declared.marker_atom.Operand.TheVariants as operands
use Rattle.markers.specs.declared.marker_atom.MarkerOperator.{MarkerOperator}
use Rattle.markers.specs.declared.marker_atom.MarkerOperator.TheVariants as marker_operators
use Rattle.pep440.specs.Matching.{matches}
use Rattle.pep440.specs.Version.{VersionParts}
use Rattle.pep440.specs.declared.specifier.Clause.{Clause}
use Rattle.exports.specs.Tied.Kept.{AreApart, CanStand, IsTurned, SettlesRelation, with_operator}
use Rattle.exports.specs.Tied.Opposites.{is_fixed, opposite_marker_operator}
use Rattle.exports.specs.declared.condition.Condition.{Condition}
use Rattle.exports.specs.declared.condition.Condition.TheVariants as conditions
use Rattle.exports.proofs.OppositeOperators.{is-opposite}
use Rattle.exports.proofs.SaidConditions.{not-so}

-- what holds settles itself
pub settles-itself : (environment : Texts) (r : Relation) (condition : Condition) → condition ≡ conditions.Holds r.left r.operator r.right → CanStand r → relation_holds r environment ≡ true → SettlesRelation environment r condition
settles-itself environment r condition is stand h = subst (SettlesRelation environment r) (sym is) (record { own = (h, stand); alike = λ other k. h ∙ sym k })

-- and its opposite what doesn't
pub settles-turned : (environment : Texts) (r : Relation) (operator : MarkerOperator) (condition : Condition) → condition ≡ conditions.Holds r.left operator r.right → CanStand r → IsTurned environment r operator → relation_holds r environment ≡ false
    → SettlesRelation environment r condition
settles-turned environment r operator condition is stand turned fails =
    subst (SettlesRelation environment r) (sym is) (record { own = (turned.own, stand); alike = λ other k. fails ∙ sym (turned.apart other k) })

pub turned-unread : (environment : Texts) (r : Relation) (operator : MarkerOperator) → opposite_marker_operator r.operator ≡ Some operator → is_fixed operator r.right ≡ true → known_clauses r.operator r.right ≡ None → known_clauses operator r.right ≡ None
    → relation_holds r environment ≡ false → IsTurned environment r operator
turned-unread environment r operator e fixed none none_too fails =
    let turns : (other : Texts) → relation_holds (with_operator r operator) other ≡ not (relation_holds r other) = λ other. (is-opposite r.operator operator e r.left r.right other).0 (fixed, none, none_too) in
    record { own = turns environment ∙ ap not fails; apart = λ other h. not-so (relation_holds r other) (sym (turns other) ∙ h) }

-- the own version of the left operand matches the clauses behind the operator
own-met : (environment : Texts) (left right : Operand) (operator : MarkerOperator) (version : VersionParts) (opposed : List Clause) → version_read (operand_text environment left) ≡ Some version
    → known_clauses operator right ≡ Some opposed → matches opposed version ≡ true → relates operator (operand_text environment left) (operand_text environment right) ≡ true
own-met environment left (operands.Quoted text) (marker_operators.Compare c) version opposed read known h =
    ap (λ (own : Option VersionParts). decides own (clauses_read c text) (text_compares c (operand_text environment left) text)) read
    ∙ ap (λ (found : Option (List Clause)). decides (Some version) found (text_compares c (operand_text environment left) text)) known ∙ h
own-met environment left (operands.Variable v) (marker_operators.Compare c) version opposed read known h = absurd cc
own-met environment left (operands.Quoted text) marker_operators.In version opposed read known h = absurd cc
own-met environment left (operands.Variable v) marker_operators.In version opposed read known h = absurd cc
own-met environment left (operands.Quoted text) marker_operators.NotIn version opposed read known h = absurd cc
own-met environment left (operands.Variable v) marker_operators.NotIn version opposed read known h = absurd cc

pub turned-read : (environment : Texts) (r : Relation) (operator : MarkerOperator) (clauses opposed : List Clause) → opposite_marker_operator r.operator ≡ Some operator → known_clauses r.operator r.right ≡ Some clauses
    → known_clauses operator r.right ≡ Some opposed → AreApart environment r.left clauses opposed → IsTurned environment r operator
turned-read environment r operator clauses opposed e read read_too apart = record {
  own = own-met environment r.left r.right operator apart.version opposed apart.read read_too apart.matched;
  apart = λ other. (is-opposite r.operator operator e r.left r.right other).1 (record { clauses = clauses; opposed = opposed; read = read; read_too = read_too; are = apart.are });
}
