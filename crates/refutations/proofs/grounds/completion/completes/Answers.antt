use Rattle.std.proofs.Common.{◌≡◌, None}
use Rattle.refutations.proofs.Grounded.{completes-found}
use Rattle.refutations.proofs.grounds.completion.completes.Goals as goal

pub returns-clause-right : goal.returns-clause-right
returns-clause-right c = rw c.is_some.ensures (completes-found (c.args.earlier.hints ≡ None) c.args.earlier.conflicts.now c.args.conflict.now c.args.choice.now
    c.completed_at.result c.completed_at.ensures).0

pub returns-clause-whole : goal.returns-clause-whole
returns-clause-whole c = rw c.is_some.ensures (completes-found (c.args.earlier.hints ≡ None) c.args.earlier.conflicts.now c.args.conflict.now c.args.choice.now
    c.completed_at.result c.completed_at.ensures).1
