use Rattle.std.proofs.Common.{◌≡◌, take}
use Rattle.search.specs.SetsOfChoices.{as_sets}
use Rattle.refute.proofs.set_refutation.as_sets.Given as goal

abbrev pub invariant-loop-conflict : goal.invariant-loop-conflict
invariant-loop-conflict l = l.sets.items ≡ as_sets (take l.conflict-index l.conflicts)
