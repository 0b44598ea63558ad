use Rattle.std.proofs.Common.{rules}
use Rattle.pep440.proofs.order.dev_key.Goals as goal

pub returns-in-Some : goal.returns-in-Some
returns-in-Some c = search rules
