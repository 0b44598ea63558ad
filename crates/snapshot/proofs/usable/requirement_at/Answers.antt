use Rattle.std.proofs.Common.{rules}
use Rattle.snapshot.proofs.usable.requirement_at.Goals as goal

pub returns-in-Err : goal.returns-in-Err
returns-in-Err c = search rules
