use Rattle.std.proofs.Common.{◌∙◌}
use Rattle.snapshot.proofs.FileFacts.{wheels_gathered, sdist_gathered}
use Rattle.snapshot.proofs.chosen.choose.Goals as goal

pub returns-clause-wheels : goal.returns-clause-wheels
returns-clause-wheels c = c.in_ok-wheels-2.ensures ∙ wheels_gathered c.args.files _ (rw c.into_vec.ensures at c.in_ok-wheels.ensures.all)

pub returns-clause-sdist : goal.returns-clause-sdist
returns-clause-sdist c = c.or-sdist.ensures ∙ sdist_gathered c.args.files _ (rw c.into_vec.ensures at c.in_ok-wheels.ensures.all)
