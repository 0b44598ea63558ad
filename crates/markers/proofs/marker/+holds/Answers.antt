use Rattle.std.proofs.Common.{arith, rules}
use Rattle.markers.proofs.MarkerFacts.{member_size}
use Rattle.markers.proofs.marker.+holds.Goals as goal

pub all_hold-holds-requires : goal.all_hold-holds-requires
all_hold-holds-requires t c = (let less = member_size c.args.members.now c.loop-member.member-index c.member-item.result c.loop-member-test.true c.member-item.is in let d = c.decreases in omega arith, tt)

pub any_holds-holds-requires : goal.any_holds-holds-requires
any_holds-holds-requires t c = let less = member_size c.args.members.now c.loop-member.member-index c.member-item.result c.loop-member-test.true c.member-item.is in let d = c.decreases in (omega arith, tt)

pub Marker::holds-returns-in-Atom : goal.Marker::holds-returns-in-Atom
Marker::holds-returns-in-Atom t c = search rules
