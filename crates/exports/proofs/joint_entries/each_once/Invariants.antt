use Rattle.std.proofs.Common.{◌≢◌, take}
use Rattle.std.specs.List.{AllPairs, Contains}
use Rattle.std.specs.Prelude.{◌↔◌}
use Rattle.pylock.specs.Packages.{EntryParts}
use Rattle.exports.proofs.joint_entries.each_once.Given as goal

abbrev pub invariant-loop-entry : goal.invariant-loop-entry
invariant-loop-entry l = AllPairs (λ e f. e ≢ f) l.once.items × ((e : EntryParts) → Contains (take l.entry-index l.entries) e ↔ Contains l.once.items e)
