use Rattle.std.proofs.Common.{map, take}
use Rattle.problems.specs.Tied.Standing.{AllStand}
use Rattle.resolve.specs.Tied.Building.{AreEntries, IsGrown}
use Rattle.resolve.proofs.gathered_nodes.Gathering.ask_release.Given as goal

abbrev pub invariant-loop-requirement : goal.invariant-loop-requirement
invariant-loop-requirement l = AreEntries l.problem l.self × IsGrown l.fn.self l.self × AllStand l.self.asked l.numbers.items (map (λ w. w.now) (take l.requirement-index l.wanted))
