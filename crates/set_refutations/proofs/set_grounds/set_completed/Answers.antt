use Rattle.std.specs.Option.{option_copied}
use Rattle.set_refutations.proofs.SetsGrounded.{completed-place}
use Rattle.set_refutations.proofs.set_grounds.set_completed.Goals as goal

pub returns : goal.returns
returns c = completed-place c.args.earlier.now c.args.conflict.now (record { name = c.args.name.now; extra = option_copied c.args.extra }) c.args.version.now c.first_completed.result c.first_completed.ensures
