use Rattle.std.proofs.Common.{rules}
use Rattle.states.proofs.LawfulNames.{rises-from}
use Rattle.states.proofs.targets.in_order.Goals as goal

pub returns-clause-rising : goal.returns-clause-rising
returns-clause-rising c =
    let sorted = rises-from _ c.len.ensures.ordered in search (rules, sorted)
