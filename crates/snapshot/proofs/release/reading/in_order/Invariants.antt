use Rattle.std.proofs.Common.{◌≡◌, ◌++◌}
use Rattle.snapshot.proofs.release.reading.in_order.Given as goal

abbrev pub invariant-loop-release : goal.invariant-loop-release
invariant-loop-release l = l.releases.items ++ l.release-iterator ≡ l.fn.newest.keys
