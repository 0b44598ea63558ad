use Rattle.problems.proofs.NodesMet.{dependency-met, needed-met}
use Rattle.problems.proofs.laws.what_is_needed_can_be_met.Goals as goal

pub returns-clause-needed : goal.returns-clause-needed
returns-clause-needed c = λ given chosen node needed. needed-met given chosen node needed

pub returns-clause-dependencies : goal.returns-clause-dependencies
returns-clause-dependencies c = λ given name release wanted there asked. dependency-met given name release wanted there asked
