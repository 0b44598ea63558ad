use Rattle.std.proofs.Common.{arith}
use Rattle.markers.proofs.MarkerFacts.{member_size}
use Rattle.markers.proofs.marker.+gather_extras.Goals as goal

pub gather_extras_of_members-gather_extras-requires : goal.gather_extras_of_members-gather_extras-requires
gather_extras_of_members-gather_extras-requires t c = let less = member_size c.args.members.now c.loop-member.member-index c.member-item.result c.loop-member-test.true c.member-item.is in let d = c.decreases in (omega arith, tt)
