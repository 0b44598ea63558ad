use Rattle.set_conflicts.proofs.Listed.{at-member}
use Rattle.set_conflicts.proofs.clash.does_any_refuse.Goals as goal

pub name_required-requires : goal.name_required-requires
name_required-requires c = c.requires.known _ (at-member c.args.requirements.now c.loop-requirement.requirement-index 0 c.loop-requirement-test.true)

pub does_admit-requires : goal.does_admit-requires
does_admit-requires c = c.requires.known _ (at-member c.args.requirements.now c.loop-requirement.requirement-index 0 c.loop-requirement-test.true)
