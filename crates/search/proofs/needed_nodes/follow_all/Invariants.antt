use Rattle.std.proofs.Common.{◌≡◌, ◌≤◌, ◌-◌, length}
use Rattle.search.specs.Tied.Front.{IsFollowed}
use Rattle.search.specs.Tied.Nodes.{Extends}
use Rattle.search.specs.Tied.Search.{taken_at}
use Rattle.search.specs.Table.{rules_of}
use Rattle.search.proofs.needed_nodes.follow_all.Given as goal

abbrev pub invariant-loop-at : goal.invariant-loop-at
invariant-loop-at l = record {
  followed : IsFollowed (rules_of l.table) (taken_at l.taken) l.nodes.members l.required.members l.known_before l.at;
  within : l.at ≤ length l.nodes.members;
  room : l.nodes.room ≡ length l.table.nodes;
  kept : Extends l.fn.required.members l.required.members;
  required_room : l.required.room ≡ length l.table.requirements;
}

-- the nodes that have not been followed, at most
abbrev pub decreases-loop-at : goal.decreases-loop-at
decreases-loop-at l = l.nodes.room - l.at
