use Rattle.std.proofs.Common.{take}
use Rattle.problems.specs.Tied.Growing.{Grows, nodes_asked}
use Rattle.problems.proofs.needed.add_lines.Given as goal

abbrev pub invariant-loop-wanted : goal.invariant-loop-wanted
invariant-loop-wanted l = Grows l.fn.nodes l.nodes (nodes_asked (take l.wanted-index l.lines))
