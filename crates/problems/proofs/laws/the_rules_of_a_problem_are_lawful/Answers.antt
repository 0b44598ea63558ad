use Rattle.problems.proofs.Equals.{lawful-rules}
use Rattle.problems.proofs.laws.the_rules_of_a_problem_are_lawful.Goals as goal

pub returns : goal.returns
returns c = λ given. lawful-rules given
