use Rattle.std.specs.Option.{option_copied}
use Rattle.refutations.proofs.Grounded.{completed-place}
use Rattle.refutations.proofs.grounds.completed.Goals as goal

pub returns : goal.returns
returns c = completed-place c.args.earlier.now c.args.conflict.now
    (record { node = record { name = c.args.name.now; extra = option_copied c.args.extra }; version = c.args.version.now })
    c.first_completed.result c.first_completed.ensures
