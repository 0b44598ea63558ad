use Rattle.std.proofs.Common.{◌∷◌, [], arith}
use Rattle.std.proofs.lemmas.Grind.{common_steps}
use Rattle.learning_search.proofs.Sets.{gathers-more}
use Rattle.learning_search.proofs.decisions.insert_all.Goals as goal

pub loop-decision-preserved : goal.loop-decision-preserved
loop-decision-preserved c = gathers-more c.args.decisions.now.items c.loop-decision.decisions.items c.insert_unless.new.decisions.items c.args.conflict.now (c.args.left_out ∷ []) c.loop-decision.decision-index _ c.loop-decision-test.true c.loop-decision.invariant c.in_ok-insert_unless.ensures

pub returns : goal.returns
returns c = grind (arith, common_steps)
