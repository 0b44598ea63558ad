use Rattle.pep508.proofs.Files.{concat-lines_of}
use Rattle.pep508.proofs.LinesAreCut.{AreLines-lines_of, one-list}
use Rattle.pep508.proofs.laws.a_text_has_its_lines.Goals as goal

pub returns-clause-lines : goal.returns-clause-lines
returns-clause-lines c = AreLines-lines_of

pub returns-clause-joined : goal.returns-clause-joined
returns-clause-joined c = concat-lines_of

pub returns-clause-one : goal.returns-clause-one
returns-clause-one c = one-list
