-- What a lock may be told to ask of an environment. All of it is reqlock's own rule.
use Rattle.std.specs.Prelude.{◌≡◌, ◌↔◌, ℕ, ⊤, Bool, true, false, List, Option, Some, None, Ok}
use Rattle.std.specs.List.{AllByRecursion, list_all}
use Rattle.markers.specs.Comparisons.{version_read}
use Rattle.markers.specs.Environment.{IsEnvironment, Texts, is_unescaped, is_versioned, text_of}
use Rattle.markers.specs.Marker.{Tree, holds, marker_of}
use Rattle.markers.specs.MarkerAtoms.{relation_holds}
use Rattle.markers.specs.declared.marker_atom.Operand.{Operand}
use Rattle.markers.specs.declared.marker_atom.Operand.TheVariants as operands
use Rattle.pep440.specs.Matching.{clause_matches}
use Rattle.pep440.specs.SetGrammar.{takes}
use Rattle.pep440.specs.Version.{IsVersion, VersionParts}
use Rattle.pep440.specs.declared.specifier.Clause.{Clause}
use Rattle.exports.specs.declared.condition.Condition.{Condition}
use Rattle.exports.specs.declared.condition.Condition.TheVariants.{Same, Matches, Holds}

-- a version that was read matches a clause
abbrev pub is_matched : Clause → Option VersionParts → Bool
is_matched clause None = false
is_matched clause (Some version) = clause_matches clause version

-- another environment meets a condition: its text of a variable is the same, or reads as a version that the clause matches, or the relation holds there
abbrev pub Meets : Texts → Texts → Condition → Type 0
Meets environment other (Same variable) = text_of other variable ≡ text_of environment variable
Meets environment other (Matches variable clause) = is_matched clause (version_read (text_of other variable)) ≡ true
Meets environment other (Holds left operator right) = relation_holds (record { left = left; operator = operator; right = right }) other ≡ true

-- it meets all of them
abbrev pub MeetsAll : Texts → Texts → List Condition → Type 0
MeetsAll environment other conditions = AllByRecursion (Meets environment other) conditions

-- a variable, or a text that stands for itself between double quotes
abbrev pub can_stand : Operand → Bool
can_stand (operands.Variable variable) = true
can_stand (operands.Quoted text) = list_all is_unescaped text

-- a clause is asked of a variable whose texts are versions in every environment alone, since any other text would be compared as a text;
-- of a relation both operands can stand in a marker
abbrev pub IsTellable : Condition → Type 0
IsTellable (Same variable) = ⊤
IsTellable (Matches variable clause) = (is_versioned variable ≡ true) × IsVersion clause.version × (takes clause.operator clause.version ≡ true)
IsTellable (Holds left operator right) = (can_stand left ≡ true) × (can_stand right ≡ true)

-- the text reads as a marker that holds, whatever extra is asked, in exactly the environments that meet all conditions
pub record IsMarkerOf (environment : Texts) (conditions : List Condition) (text : List ℕ) : Type 0 where
  pub marker : Tree
  pub reads : marker_of text ≡ Ok marker
  pub exact : (other : Texts) (extra : Option (List ℕ)) → IsEnvironment other → (holds marker other extra ≡ true) ↔ MeetsAll environment other conditions
