use Rattle.pep508.proofs.OneLineMore.{AreLines-file_of}
use Rattle.pep508.proofs.laws.a_file_reads_as_lines.Goals as goal

pub returns : goal.returns
returns c = AreLines-file_of
