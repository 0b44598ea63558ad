use Rattle.std.proofs.Common.{◌∙◌}
use Rattle.set_refutations.proofs.SetsGrounded.{completed-is}
use Rattle.set_refutations.proofs.set_grounds.completion.completes.Goals as goal

pub returns : goal.returns
returns c = c.is_some.ensures ∙ completed-is c.args.earlier.now c.args.conflict.now c.args.node.now c.args.version.now c.first_completed.result c.first_completed.ensures
