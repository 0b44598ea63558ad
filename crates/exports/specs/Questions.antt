-- What lines ask of an environment over an index, question by question. All of it is reqlock's own rule.
use Rattle.std.specs.Prelude.{◌≡◌, ◌≢◌, ℕ, Bool, true, List, Option, Some}
use Rattle.std.specs.List.{Contains}
use Rattle.markers.specs.Environment.{Texts}
use Rattle.markers.specs.Marker.{Tree}
use Rattle.markers.specs.MarkerAtoms.{Relation, relation_holds}
use Rattle.markers.specs.MarkerRelations.{relations_in}
use Rattle.pep440.specs.Matching.{matches}
use Rattle.pep440.specs.Python.{PythonParts}
use Rattle.pep508.specs.Requirement.{RequirementParts}
use Rattle.problems.specs.Admission.{meets_python}
use Rattle.snapshot.specs.Packages.{Index, releases_of}
use Rattle.snapshot.specs.Release.{Release}
use Rattle.exports.specs.Alike.{CanAsk}

-- whether a relation of a marker holds, or whether what a release asks of Python is met
pub data Question : Type 0 where
  holds_there : Relation → Question
  is_met : Option PythonParts → Question

-- the answer of an environment
abbrev pub answer : Texts → Question → Bool
answer environment (holds_there r) = relation_holds r environment
answer environment (is_met python) = meets_python environment python

-- a question that counts: of the marker of what lines can ask for, or of a release whose version matches the clauses of what they can ask for
pub data Counts (lines : List (List ℕ)) (index : Index) : Question → Type 0 where
  of_marker : (wanted : RequirementParts) (marker : Tree) (r : Relation) → CanAsk lines index wanted → wanted.marker ≡ Some marker → Contains (relations_in marker) r → Counts lines index (holds_there r)
  of_release : (wanted : RequirementParts) (release : Release) → CanAsk lines index wanted → Contains (releases_of wanted.name index.packages) release → matches wanted.clauses release.version ≡ true → Counts lines index (is_met release.requires_python)

-- each question that counts has the same answer in both environments
abbrev pub AnswerEachAlike : List (List ℕ) → Index → Texts → Texts → Type 0
AnswerEachAlike lines index one other = (q : Question) → Counts lines index q → answer one q ≡ answer other q

-- some question that counts has two answers
pub record AnswerOneApart (lines : List (List ℕ)) (index : Index) (one other : Texts) : Type 0 where
  pub question : Question
  pub counts : Counts lines index question
  pub differ : answer one question ≢ answer other question
