use Rattle.edits.proofs.KeepLaws.{same-locks}
use Rattle.edits.proofs.laws.an_edit_that_keeps_all_needs_no_others.Goals as goal

pub returns : goal.returns
returns c = same-locks c.the_best_solution_that_keeps_all_stays_the_best.ensures c.needs_forget_kept_versions.ensures
