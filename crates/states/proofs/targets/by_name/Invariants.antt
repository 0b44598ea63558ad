use Rattle.std.proofs.Common.{◌≡◌, []}
use Rattle.states.specs.Targets.{with_targets}
use Rattle.states.proofs.targets.by_name.Given as goal

abbrev pub invariant-loop-name : goal.invariant-loop-name
invariant-loop-name l = with_targets l.found.entries l.name-iterator.rest.items ≡ with_targets [] l.fn.given
