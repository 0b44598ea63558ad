use Rattle.std.proofs.Common.{map}
use Rattle.learning_search.proofs.Sets.{within-more, within-whole}
use Rattle.learning_search.specs.Tied.Gathering.{choice_at}
use Rattle.learning_search.proofs.partial_solution.is_completed.Goals as goal

pub loop-decision-preserved : goal.loop-decision-preserved
loop-decision-preserved c = within-more c.args.conflict.now (map choice_at c.args.choices.now.entries) c.args.candidate c.loop-decision.decision-index _ c.loop-decision-test.true c.loop-decision.invariant (c.is_covered.ensures c.if-not-is_covered.false)

pub returns : goal.returns
returns c = λ _. within-whole c.args.conflict.now (map choice_at c.args.choices.now.entries) c.args.candidate c.loop-decision.decision-index c.loop-decision-test.false c.loop-decision.invariant
