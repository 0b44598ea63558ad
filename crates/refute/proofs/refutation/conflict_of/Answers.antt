use Rattle.resolve.proofs.Solving.{get_or-any}
use Rattle.refute.proofs.refutation.conflict_of.Goals as goal

pub choice_of-requires-clause-known : goal.choice_of-requires-clause-known
choice_of-requires-clause-known c = c.requires.known _ (c.loop-decision.decision-index, c.loop-decision-test.true, get_or-any c.args.decisions.now c.loop-decision.decision-index _ (record { node = 0; version = 0 }) c.loop-decision-test.true)
