use Rattle.std.proofs.Common.{map, take}
use Rattle.problems.specs.Tied.Growing.{Grows}
use Rattle.problems.specs.Rules.{with_extra}
use Rattle.problems.proofs.needed.add_extras.Given as goal

abbrev pub invariant-loop-extra : goal.invariant-loop-extra
invariant-loop-extra l = Grows l.fn.nodes l.nodes (map (with_extra l.name) (take l.extra-index l.extras))
