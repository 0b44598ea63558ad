use Rattle.search.proofs.Refutations.{Follows-excluded, list-excluded, refutation-none}
use Rattle.search.proofs.laws.what_follows_lies_in_no_solution.Goals as goal

pub returns-clause-follows : goal.returns-clause-follows
returns-clause-follows g c = λ rules same law equal earlier conflict. Follows-excluded rules same law equal earlier conflict

pub returns-clause-each : goal.returns-clause-each
returns-clause-each g c = λ rules same law equal conflicts. list-excluded rules same law equal conflicts

pub returns-clause-none : goal.returns-clause-none
returns-clause-none g c = λ rules same law equal conflicts. refutation-none rules same law equal conflicts
