use Rattle.std.proofs.Common.{take}
use Rattle.std.specs.List.{AllByRecursion}
use Rattle.states.specs.Tied.LockForLines.{IsClosed}
use Rattle.states.proofs.state.lock_for_lines.are_closed.Given as goal

abbrev pub invariant-loop-entry : goal.invariant-loop-entry
invariant-loop-entry l = AllByRecursion (IsClosed l.entries) (take l.entry-index l.some)
