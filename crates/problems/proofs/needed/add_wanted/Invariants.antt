use Rattle.std.proofs.Common.{map, take}
use Rattle.problems.specs.Tied.Growing.{Grows, nodes_asked}
use Rattle.problems.proofs.needed.add_wanted.Given as goal

abbrev pub invariant-loop-requirement : goal.invariant-loop-requirement
invariant-loop-requirement l = Grows l.fn.nodes l.nodes (nodes_asked (map (λ w. w.now) (take l.requirement-index l.wanted)))
