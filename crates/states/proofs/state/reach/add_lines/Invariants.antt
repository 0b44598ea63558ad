use Rattle.std.proofs.Common.{map, take}
use Rattle.problems.specs.Problem.{requirements}
use Rattle.states.specs.Tied.LockForLines.{IsGrown}
use Rattle.states.proofs.state.reach.add_lines.Given as goal

abbrev pub invariant-loop-line : goal.invariant-loop-line
invariant-loop-line l = IsGrown l.initial.names l.names (map (λ wanted. wanted.name) (requirements l.environment (take l.line-index l.lines)))
