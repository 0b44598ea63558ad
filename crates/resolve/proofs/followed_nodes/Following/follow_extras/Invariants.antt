use Rattle.std.proofs.Common.{◌≡◌, map, take}
use Rattle.problems.specs.Rules.{with_extra}
use Rattle.resolve.specs.Tied.Walking.{Follow}
use Rattle.resolve.proofs.followed_nodes.Following.follow_extras.Given as goal

abbrev pub invariant-loop-extra : goal.invariant-loop-extra
invariant-loop-extra l = record {
  same : l.self.wants ≡ l.fn.self.wants;
  followed : Follow l.fn.self.wants l.version (map (with_extra l.name) (take l.extra-index l.extras)) l.fn.self.nodes l.self.nodes l.fn.asks l.asks;
}
