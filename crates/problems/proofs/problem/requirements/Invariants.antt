use Rattle.std.proofs.Common.{◌≡◌, take}
use Rattle.problems.specs.Problem.{requirements}
use Rattle.problems.proofs.problem.requirements.Given as goal

abbrev pub invariant-loop-line : goal.invariant-loop-line
invariant-loop-line l = l.kept.items ≡ requirements l.environment (take l.line-index l.lines)
