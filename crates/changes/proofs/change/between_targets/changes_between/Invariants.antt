use Rattle.std.proofs.Common.{◌≡◌, ◌++◌, drop}
use Rattle.changes.specs.Tied.Between.{target_change_on}
use Rattle.changes.specs.Tied.Retargeted.{on_names}
use Rattle.changes.proofs.change.between_targets.changes_between.Given as goal

abbrev pub invariant-loop-name : goal.invariant-loop-name
invariant-loop-name l = l.made.items ++ on_names (target_change_on l.old l.new) (drop l.name-index l.names) ≡ on_names (target_change_on l.old l.new) l.names
