use Rattle.std.proofs.Common.{refl}
use Rattle.pylock.specs.Order.{rises}
use Rattle.changes.proofs.change.retargeted.entries_in.Goals as goal

pub returns-in-None-clause-rising : goal.returns-in-None-clause-rising
unfolding rises
returns-in-None-clause-rising c = refl
