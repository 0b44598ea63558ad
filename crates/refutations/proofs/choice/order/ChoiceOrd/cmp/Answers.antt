use Rattle.std.proofs.Common.{rules}
use Rattle.refutations.proofs.choice.order.ChoiceOrd.cmp.Goals as goal

pub returns : goal.returns
returns c = search rules
