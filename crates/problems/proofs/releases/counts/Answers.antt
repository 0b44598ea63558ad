use Rattle.std.proofs.Common.{rules}
use Rattle.problems.proofs.releases.counts.Goals as goal

pub returns-in-Some : goal.returns-in-Some
returns-in-Some c = search rules
