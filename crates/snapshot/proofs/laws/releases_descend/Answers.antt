use Rattle.snapshot.proofs.FirstOfEqualsStays.{newest-first, newest-sorted}
use Rattle.snapshot.proofs.laws.releases_descend.Goals as goal

pub returns-clause-descending : goal.returns-clause-descending
returns-clause-descending c = newest-sorted

pub returns-clause-first_listed : goal.returns-clause-first_listed
returns-clause-first_listed c = newest-first
