use Rattle.std.proofs.Common.{take}
use Rattle.resolve.specs.Tied.Building.{AreEntries, AreWants, IsGrown}
use Rattle.resolve.proofs.gathered_nodes.Gathering.ask_releases.Given as goal

abbrev pub invariant-loop-wanted : goal.invariant-loop-wanted
invariant-loop-wanted l = AreEntries l.problem l.self × IsGrown l.fn.self l.self × AreWants l.self.asked l.rows.items (take l.wanted-index l.releases)
