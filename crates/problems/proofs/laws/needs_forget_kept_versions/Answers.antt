use Rattle.problems.proofs.KeepingAll.{needs-forget}
use Rattle.problems.proofs.laws.needs_forget_kept_versions.Goals as goal

pub returns : goal.returns
returns c = needs-forget
