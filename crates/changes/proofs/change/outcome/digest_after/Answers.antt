use Rattle.std.proofs.Common.{rules}
use Rattle.changes.proofs.change.outcome.digest_after.Goals as goal

pub returns : goal.returns
returns c = search rules
