use Rattle.std.proofs.Common.{◌≡◌, None}
use Rattle.refutations.proofs.Grounded.{exhausted-last}
use Rattle.refutations.proofs.grounds.exhaustion.exhausted.Goals as goal

pub returns : goal.returns
returns c = exhausted-last (c.args.earlier.hints ≡ None) c.args.problem.now c.args.earlier.conflicts.now c.args.conflict.now c.exhausted_by_choice.result c.in_default.ensures c.exhausted_by_choice.ensures
