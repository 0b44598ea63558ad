use Rattle.markers.proofs.TextsReadAsSpelled.{text-read, text-spells, text-too_deep}
use Rattle.markers.proofs.marker_laws.a_text_reads_as_the_marker_that_it_spells.Goals as goal

pub returns-clause-read : goal.returns-clause-read
returns-clause-read c = text-spells

pub returns-clause-found : goal.returns-clause-found
returns-clause-found c = text-read

pub returns-clause-deep : goal.returns-clause-deep
returns-clause-deep c = text-too_deep
