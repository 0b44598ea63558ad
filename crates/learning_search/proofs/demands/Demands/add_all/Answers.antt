use Rattle.search.proofs.Ranges.{at-member}
use Rattle.learning_search.proofs.demands.Demands.add_all.Goals as goal

pub add-requires-clause-known : goal.add-requires-clause-known
add-requires-clause-known c = c.requires.known _ (at-member c.args.requirements.now c.loop-requirement.requirement-index 0 c.loop-requirement-test.true)
