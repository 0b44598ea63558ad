use Rattle.std.proofs.Common.{arith}
use Rattle.markers.proofs.MarkerFacts.{member_size}
use Rattle.markers.proofs.marker.+copy.Goals as goal

pub copy_members-copy-requires : goal.copy_members-copy-requires
copy_members-copy-requires t c =
    let less = member_size c.deref-member-items.result.now c.loop-member.member-index c.member-item.result c.loop-member-test.true c.member-item.is in
    let all = c.deref-member-items.ensures.value in
    let d = c.decreases in
    (omega (arith, rw all at less), tt)
