use Rattle.edits.proofs.KeepLaws.{pins-kept}
use Rattle.edits.proofs.laws.an_edit_keeps_versions_without_others.Goals as goal

pub returns : goal.returns
returns c = pins-kept c.solutions_without_others_keep_all.ensures c.a_kept_version_is_that_of_its_release.ensures
