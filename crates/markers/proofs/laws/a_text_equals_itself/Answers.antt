use Rattle.markers.proofs.TextsEqualThemselves.{environment_itself, equal_itself}
use Rattle.markers.proofs.laws.a_text_equals_itself.Goals as goal

pub returns-clause-printable : goal.returns-clause-printable
returns-clause-printable c = equal_itself c.a_piece_reads_as_its_clause.ensures.found c.a_bare_text_reads_as_its_parts.ensures.read

pub returns-clause-environment : goal.returns-clause-environment
returns-clause-environment c = environment_itself c.a_piece_reads_as_its_clause.ensures.found c.a_bare_text_reads_as_its_parts.ensures.read
