use Rattle.pep508.proofs.EachLine.{AreLines-filter}
use Rattle.pep508.proofs.laws.lines_may_be_left_out.Goals as goal

pub returns : goal.returns
returns c = AreLines-filter
