use Rattle.pep440.proofs.EqualVersionsMatchAlike.{matches-alike}
use Rattle.pep440.proofs.laws.equal_versions_match_alike.Goals as goal

pub returns : goal.returns
returns c = matches-alike
