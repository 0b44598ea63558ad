use Rattle.snapshot.proofs.FirstOfEqualsStays.{wheels-first, wheels-sorted}
use Rattle.snapshot.proofs.laws.wheels_ascend.Goals as goal

pub returns-clause-ascending : goal.returns-clause-ascending
returns-clause-ascending c = wheels-sorted

pub returns-clause-first_listed : goal.returns-clause-first_listed
returns-clause-first_listed c = wheels-first
