-- Conditions that grow, question by question.
-- Tied to `AnswersAlike` by the contract of `conditions_of`; need not be read.
use Rattle.std.specs.Prelude.{◌≡◌, true, false, List, Some}
use Rattle.std.specs.List.{AllByRecursion}
use Rattle.markers.specs.Comparisons.{version_read}
use Rattle.markers.specs.Environment.{Texts, text_of}
use Rattle.markers.specs.MarkerAtoms.{Relation, operand_text, relation_holds}
use Rattle.markers.specs.MarkerRelations.{RelationAlike}
use Rattle.markers.specs.declared.marker_atom.Operand.{Operand}
use Rattle.markers.specs.declared.marker_atom.MarkerOperator.{MarkerOperator}
use Rattle.markers.specs.declared.variable.Variable.{Variable}
use Rattle.pep440.specs.Matching.{clause_matches, matches}
use Rattle.pep440.specs.Version.{VersionParts}
use Rattle.pep440.specs.declared.specifier.Clause.{Clause}
use Rattle.exports.specs.Conditions.{IsTellable, Meets, MeetsAll, can_stand}
use Rattle.exports.specs.Tied.Opposites.{are_opposed}
use Rattle.exports.specs.declared.condition.Condition.{Condition}
use Rattle.exports.specs.declared.condition.Condition.TheVariants as conditions

-- its own environment meets a condition, which can be told
abbrev pub IsOwn : Texts → Condition → Type 0
IsOwn environment condition = Meets environment environment condition × IsTellable condition

-- so it is with all of them
abbrev pub AreOwn : Texts → List Condition → Type 0
AreOwn environment conditions = AllByRecursion (IsOwn environment) conditions

-- the new conditions are no weaker than the old ones, settle a question, and are its own environment's where the old ones are
pub record Keeps (environment : Texts) (old new : List Condition) (Settled : Texts → Type 0) : Type 0 where
  pub stronger : (other : Texts) → MeetsAll environment other new → MeetsAll environment other old
  pub settled : (other : Texts) → MeetsAll environment other new → Settled other
  pub own : AreOwn environment old → AreOwn environment new

-- the texts of a variable are the same, or read as versions of which a test says the same
pub data VersionsAlike (environment other : Texts) (variable : Variable) (Test : VersionParts → VersionParts → Type 0) : Type 0 where
  same_text : text_of other variable ≡ text_of environment variable → VersionsAlike environment other variable Test
  both_read : (own its : VersionParts) → version_read (text_of environment variable) ≡ Some own → version_read (text_of other variable) ≡ Some its → Test own its → VersionsAlike environment other variable Test

-- a clause matches both or neither
abbrev pub ClauseAlike : Clause → VersionParts → VersionParts → Type 0
ClauseAlike clause own its = clause_matches clause own ≡ clause_matches clause its

-- all clauses match both, or some doesn't match the one and some doesn't match the other
abbrev pub ClausesAlike : List Clause → VersionParts → VersionParts → Type 0
ClausesAlike clauses own its = matches clauses own ≡ matches clauses its

-- each version that the first clause matches is matched by the second
abbrev pub ClauseFollows : Clause → Clause → Type 0
ClauseFollows clause wanted = (version : VersionParts) → clause_matches clause version ≡ true → clause_matches wanted version ≡ true

-- an operand has the same text in both environments
abbrev pub OperandAlike : Texts → Operand → Texts → Type 0
OperandAlike environment operand other = operand_text other operand ≡ operand_text environment operand

-- the environment's own version matches the clause, which can be told, and where two versions match it, the other clause matches both or neither
pub record Settles (environment : Texts) (variable : Variable) (clause settling : Clause) : Type 0 where
  pub own : IsOwn environment (conditions.Matches variable settling)
  pub alike : (one other : VersionParts) → clause_matches settling one ≡ true → clause_matches settling other ≡ true → ClauseAlike clause one other

-- both operands can stand in a marker
abbrev pub CanStand : Relation → Type 0
CanStand r = (can_stand r.left ≡ true) × (can_stand r.right ≡ true)

-- a relation with another operator
abbrev pub with_operator : Relation → MarkerOperator → Relation
with_operator r operator = record { left = r.left; operator = operator; right = r.right }

-- the environment's own version of an operand matches the second clauses, of which one is opposed to one of the first
pub record AreApart (environment : Texts) (left : Operand) (clauses opposed : List Clause) : Type 0 where
  pub version : VersionParts
  pub read : version_read (operand_text environment left) ≡ Some version
  pub matched : matches opposed version ≡ true
  pub are : are_opposed clauses opposed ≡ true

-- with another operator the relation holds in its own environment, and with both operators in none
pub record IsTurned (environment : Texts) (r : Relation) (operator : MarkerOperator) : Type 0 where
  pub own : relation_holds (with_operator r operator) environment ≡ true
  pub apart : (other : Texts) → relation_holds (with_operator r operator) other ≡ true → relation_holds r other ≡ false

-- its own environment meets the condition, which can be told; wherever it is met, the relation holds as it does there
pub record SettlesRelation (environment : Texts) (r : Relation) (settling : Condition) : Type 0 where
  pub own : IsOwn environment settling
  pub alike : (other : Texts) → Meets environment other settling → RelationAlike environment other r

-- who meets the first condition meets the second, where its own environment does
abbrev pub Says : Condition → Condition → Type 0
Says condition wanted = (environment other : Texts) → Meets environment environment wanted → Meets environment other condition → Meets environment other wanted

-- and so who meets all of them
abbrev pub SaysAmong : List Condition → Condition → Type 0
SaysAmong conditions wanted = (environment other : Texts) → Meets environment environment wanted → MeetsAll environment other conditions → Meets environment other wanted
