use Rattle.std.proofs.Common.{rules}
use Rattle.problems.proofs.admission.admits_release.Goals as goal

pub returns-else-not-yanked : goal.returns-else-not-yanked
returns-else-not-yanked c = search rules
