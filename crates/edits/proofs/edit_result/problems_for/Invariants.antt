use Rattle.std.proofs.Common.{◌≡◌, ◌++◌, map}
use Rattle.states.specs.Locks.{given_for}
use Rattle.edits.proofs.edit_result.problems_for.Given as goal

abbrev pub invariant-loop-target : goal.invariant-loop-target
invariant-loop-target l = l.problems.items ++ map (given_for l.lines l.pool) l.target-iterator.rest.items ≡ map (given_for l.lines l.pool) l.fn.targets
