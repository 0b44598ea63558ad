use Rattle.pep440.proofs.ClauseIsRead.{clause-read}
use Rattle.pep440.proofs.ReadIsAClause.{read-clause}
use Rattle.pep440.proofs.laws.a_piece_reads_as_its_clause.Goals as goal

pub returns-clause-read : goal.returns-clause-read
returns-clause-read c = read-clause

pub returns-clause-found : goal.returns-clause-found
returns-clause-found c = clause-read
