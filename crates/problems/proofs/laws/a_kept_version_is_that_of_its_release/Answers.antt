use Rattle.problems.proofs.KeepingAll.{kept-same}
use Rattle.problems.proofs.laws.a_kept_version_is_that_of_its_release.Goals as goal

pub returns : goal.returns
returns c = kept-same
