use Rattle.std.proofs.Common.{◌≡◌, ◌≤◌, ◌-◌, length, take, vec_len}
use Rattle.std.specs.List.{AllZip}
use Rattle.problems.specs.Tied.Growing.{nodes_met}
use Rattle.resolve.specs.Tied.Building.{AreEntries, IsGrown, IsWanted}
use Rattle.resolve.proofs.gathered_nodes.Gathering.ask_nodes.Given as goal

-- the nodes that may still be followed
abbrev pub decreases-nodes : goal.decreases-nodes
decreases-nodes l = length (nodes_met l.fn.problem) - vec_len l.wants

abbrev pub invariant-nodes : goal.invariant-nodes
invariant-nodes l =
    AreEntries l.fn.problem l.self × IsGrown l.fn.self l.self × (vec_len l.wants ≤ length l.self.nodes) × AllZip (IsWanted l.fn.problem l.self.asked) l.wants.items (take (vec_len l.wants) l.self.nodes)
    × (l.releases ≡ l.fn.problem)
