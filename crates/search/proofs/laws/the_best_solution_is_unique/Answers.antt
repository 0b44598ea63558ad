use Rattle.search.proofs.Unique.{best-unique, best-unbeaten}
use Rattle.search.proofs.laws.the_best_solution_is_unique.Goals as goal

pub returns-clause-unique : goal.returns-clause-unique
returns-clause-unique g c = λ rules order s t. best-unique rules order s t

pub returns-clause-unbeaten : goal.returns-clause-unbeaten
returns-clause-unbeaten g c = λ rules order s t. best-unbeaten rules order s t
