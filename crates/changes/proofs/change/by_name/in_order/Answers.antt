use Rattle.std.proofs.Common.{rules}
use Rattle.states.proofs.LawfulNames.{rises-from}
use Rattle.changes.proofs.change.by_name.in_order.Goals as goal

pub returns-clause-rising : goal.returns-clause-rising
returns-clause-rising c =
    let sorted = rises-from _ c.len.ensures.ordered in search (rules, sorted)
