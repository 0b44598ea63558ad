use Rattle.search.proofs.SetRefutations.{SetFollows-excluded, set-list-excluded, set-refutation-none}
use Rattle.search.proofs.laws.what_follows_from_sets_lies_in_no_solution.Goals as goal

pub returns-clause-follows : goal.returns-clause-follows
returns-clause-follows g c = λ rules same law equal earlier conflict. SetFollows-excluded rules same law equal earlier conflict

pub returns-clause-each : goal.returns-clause-each
returns-clause-each g c = λ rules same law equal conflicts. set-list-excluded rules same law equal conflicts

pub returns-clause-none : goal.returns-clause-none
returns-clause-none g c = λ rules same law equal conflicts. set-refutation-none rules same law equal conflicts
