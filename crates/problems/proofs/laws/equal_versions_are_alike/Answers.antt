use Rattle.problems.proofs.Equals.{equal-versions}
use Rattle.problems.proofs.laws.equal_versions_are_alike.Goals as goal

pub returns : goal.returns
returns c = λ given. equal-versions given
