use Rattle.pep508.proofs.OneCut.{one_cut}
use Rattle.pep508.proofs.laws.a_line_has_one_cut.Goals as goal

pub returns : goal.returns
returns c = one_cut
