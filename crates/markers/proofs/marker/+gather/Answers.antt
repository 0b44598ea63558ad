use Rattle.std.proofs.Common.{arith}
use Rattle.markers.proofs.MarkerFacts.{member_size}
use Rattle.markers.proofs.marker.+gather.Goals as goal

pub gather_members-gather-requires : goal.gather_members-gather-requires
gather_members-gather-requires t c = let less = member_size c.args.members.now c.loop-member.member-index c.member-item.result c.loop-member-test.true c.member-item.is in let d = c.decreases in (omega arith, tt)
