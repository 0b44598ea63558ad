-- Whether two environments answer alike, as it is decided.
-- Tied to `AnswerEachAlike` and `AnswerOneApart` by the contracts of `conditions_of` and `do_answer_alike`; need not be read.
use Rattle.std.specs.Prelude.{ℕ, ◌&&◌, ◌||◌, not, Bool, true, false, List, Option, Some, None}
use Rattle.std.specs.List.{list_all}
use Rattle.markers.specs.Environment.{Texts}
use Rattle.markers.specs.Marker.{Tree}
use Rattle.markers.specs.MarkerAtoms.{Relation, relation_holds}
use Rattle.markers.specs.MarkerRelations.{relations_in}
use Rattle.pep440.specs.Matching.{matches}
use Rattle.pep440.specs.Python.{PythonParts}
use Rattle.pep508.specs.Requirement.{RequirementParts, requirement_of}
use Rattle.problems.specs.Admission.{meets_python}
use Rattle.snapshot.specs.Packages.{Index, releases_of}
use Rattle.snapshot.specs.Release.{Release}
use Rattle.exports.specs.Alike.{marker_in}

-- both answers are yes, or both are no
abbrev pub is_same_answer : Bool → Bool → Bool
is_same_answer true other = other
is_same_answer false other = not other

abbrev pub is_relation_alike : Texts → Texts → Relation → Bool
is_relation_alike one other r = is_same_answer (relation_holds r one) (relation_holds r other)

-- so it is with each relation of a marker that may be there
abbrev pub is_marker_alike : Texts → Texts → Option Tree → Bool
is_marker_alike one other None = true
is_marker_alike one other (Some marker) = list_all (is_relation_alike one other) (relations_in marker)

-- and with the marker of a requirement
abbrev pub is_wanted_alike : Texts → Texts → RequirementParts → Bool
is_wanted_alike one other wanted = is_marker_alike one other wanted.marker

-- and with that of what a line asks for
abbrev pub is_line_alike : Texts → Texts → List ℕ → Bool
is_line_alike one other line = is_marker_alike one other (marker_in (requirement_of line))

abbrev pub is_python_alike : Texts → Texts → Option PythonParts → Bool
is_python_alike one other python = is_same_answer (meets_python one python) (meets_python other python)

-- and with what a release asks of Python, and the markers of its dependencies
abbrev pub is_release_alike : Texts → Texts → Release → Bool
is_release_alike one other release = is_python_alike one other release.requires_python && list_all (is_wanted_alike one other) release.dependencies

-- and with a release, if its version matches the clauses of a requirement
abbrev pub is_matched_alike : Texts → Texts → RequirementParts → Release → Bool
is_matched_alike one other wanted release = not (matches wanted.clauses release.version) || is_release_alike one other release

-- and with the releases on the name of a requirement
abbrev pub are_matched_alike : Texts → Texts → Index → RequirementParts → Bool
are_matched_alike one other index wanted = list_all (is_matched_alike one other wanted) (releases_of wanted.name index.packages)
