use Rattle.pep440.proofs.ReadIsAClause.{bare-spells}
use Rattle.pep440.proofs.ReleaseReads.{spells-read}
use Rattle.pep440.proofs.laws.a_bare_text_reads_as_its_parts.Goals as goal

pub returns-clause-read : goal.returns-clause-read
returns-clause-read c = bare-spells

pub returns-clause-found : goal.returns-clause-found
returns-clause-found c = spells-read
