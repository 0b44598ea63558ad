use Rattle.std.proofs.Common.{rules}
use Rattle.changes.proofs.change.between.digests_between.Goals as goal

pub returns-clause-leads : goal.returns-clause-leads
returns-clause-leads c = search rules
