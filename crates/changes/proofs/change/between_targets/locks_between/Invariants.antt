use Rattle.std.proofs.Common.{take}
use Rattle.changes.specs.Tied.Between.{AreEntriesBetween}
use Rattle.changes.proofs.change.between_targets.locks_between.Given as goal

abbrev pub invariant-loop-name : goal.invariant-loop-name
invariant-loop-name l = AreEntriesBetween l.old l.new (take l.name-index l.names) l.made.items
