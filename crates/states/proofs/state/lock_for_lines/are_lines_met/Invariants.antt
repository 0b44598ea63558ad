use Rattle.std.proofs.Common.{take}
use Rattle.std.specs.List.{AllByRecursion}
use Rattle.states.specs.Tied.LockForLines.{IsLineMet}
use Rattle.states.proofs.state.lock_for_lines.are_lines_met.Given as goal

abbrev pub invariant-loop-line : goal.invariant-loop-line
invariant-loop-line l = AllByRecursion (IsLineMet l.environment l.entries) (take l.line-index l.lines)
