use Rattle.set_conflicts.proofs.Listed.{at-member}
use Rattle.set_conflicts.proofs.need.does_any_require.Goals as goal

pub does_require-requires : goal.does_require-requires
does_require-requires c = c.requires _ (at-member c.args.requirements.now c.loop-requirement.requirement-index 0 c.loop-requirement-test.true)
