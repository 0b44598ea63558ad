use Rattle.problems.specs.Rules.{rules_of}
use Rattle.states.proofs.OneLock.{bytes-order, lock-one}
use Rattle.states.proofs.laws.the_lock_of_a_problem_is_one.Goals as goal

pub returns : goal.returns
returns c = λ given one another. lock-one given one another (λ s t. c.the_best_solution_is_unique.ensures.unique (rules_of given) bytes-order s t)
