use Rattle.std.proofs.Common.{take}
use Rattle.problems.specs.Tied.Standing.{AllStand}
use Rattle.resolve.specs.Tied.Building.{AreEntries}
use Rattle.resolve.proofs.gathered_nodes.Gathering.ask_lines.Given as goal

abbrev pub invariant-loop-wanted : goal.invariant-loop-wanted
invariant-loop-wanted l = AreEntries l.problem l.self × AllStand l.self.asked l.numbers.items (take l.wanted-index l.lines)
