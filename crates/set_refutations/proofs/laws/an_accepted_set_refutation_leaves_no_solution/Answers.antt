use Rattle.problems.specs.Rules.{rules_of, same_version}
use Rattle.problems.proofs.Equals.{equal-versions, lawful-rules}
use Rattle.set_refutations.proofs.laws.an_accepted_set_refutation_leaves_no_solution.Goals as goal

pub returns-clause-none : goal.returns-clause-none
returns-clause-none c = λ given conflicts refutes. c.what_follows_from_sets_lies_in_no_solution.ensures.none (rules_of given) same_version (lawful-rules given) (equal-versions given) conflicts refutes

pub returns-clause-each : goal.returns-clause-each
returns-clause-each c = λ given conflicts refutes. c.what_follows_from_sets_lies_in_no_solution.ensures.each (rules_of given) same_version (lawful-rules given) (equal-versions given) conflicts refutes.each
