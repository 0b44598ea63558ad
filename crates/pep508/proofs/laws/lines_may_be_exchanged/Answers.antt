use Rattle.pep508.proofs.EachLine.{AreLines-map}
use Rattle.pep508.proofs.laws.lines_may_be_exchanged.Goals as goal

pub returns : goal.returns
returns c = AreLines-map
