use Rattle.refutations.proofs.Within.{within-found}
use Rattle.refutations.proofs.grounds.turns.next_behind.Goals as goal

pub returns : goal.returns
returns c = within-found c.args.conflict.now c.args.choice.now c.args.member.now c.found_behind.result c.found_behind.ensures
