-- What the operands of an atom are known to read as.
-- Tied to `version_read` and `clauses_read` by the model of the code's `Relation`; need not be read.
use Rattle.std.specs.Prelude.{List, Option, None}
use Rattle.pep440.specs.Version.{VersionParts}
use Rattle.pep440.specs.declared.specifier.Clause.{Clause}
use Rattle.markers.specs.Comparisons.{clauses_read, version_read}
use Rattle.markers.specs.declared.marker_atom.Operand.{Operand}
use Rattle.markers.specs.declared.marker_atom.Operand.TheVariants.{Variable, Quoted}
use Rattle.markers.specs.declared.marker_atom.MarkerOperator.{MarkerOperator}
use Rattle.markers.specs.declared.marker_atom.MarkerOperator.TheVariants.{Compare, In, NotIn}

-- the version that an operand on the left is known to read as
abbrev pub known_version : Operand → Option VersionParts
known_version (Variable variable) = None
known_version (Quoted text) = version_read text

-- the clauses that an operand on the right is known to read as behind a comparison
abbrev pub known_clauses : MarkerOperator → Operand → Option (List Clause)
known_clauses (Compare comparison) (Variable variable) = None
known_clauses (Compare comparison) (Quoted text) = clauses_read comparison text
known_clauses In right = None
known_clauses NotIn right = None
