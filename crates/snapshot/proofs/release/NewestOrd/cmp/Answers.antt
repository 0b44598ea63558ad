use Rattle.std.proofs.Common.{rules}
use Rattle.snapshot.proofs.release.NewestOrd.cmp.Goals as goal

pub returns : goal.returns
returns c = search rules
