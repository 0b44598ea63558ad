use Rattle.std.proofs.Common.{take}
use Rattle.std.specs.List.{AllByRecursion}
use Rattle.pep508.specs.Requirement.{IsLine}
use Rattle.changes.proofs.change.file.recall_invariants.Given as goal

abbrev pub invariant-loop-line : goal.invariant-loop-line
invariant-loop-line l = AllByRecursion IsLine (take l.line-index l.lines)
