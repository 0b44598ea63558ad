use Rattle.pep508.proofs.OneLineMore.{AreLines-first, AreLines-next}
use Rattle.pep508.proofs.laws.lines_may_get_one_more.Goals as goal

pub returns-clause-first : goal.returns-clause-first
returns-clause-first c = AreLines-first

pub returns-clause-next : goal.returns-clause-next
returns-clause-next c = AreLines-next
