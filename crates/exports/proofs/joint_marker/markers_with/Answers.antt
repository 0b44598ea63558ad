use Rattle.exports.proofs.JointEntries.{marker-more, marker-same, markers-whole}
use Rattle.exports.proofs.joint_marker.markers_with.Goals.{then-has+in_ok-push, else-has}
use Rattle.exports.proofs.joint_marker.markers_with.Goals as goal

pub loop-cover-preserved : goal.loop-cover-preserved
loop-cover-preserved c = elim c.if-has.branch [
  | then-has+in_ok-push w ↦
      rw (w.texts-is, w.in_ok-push.ensures)
      (marker-more c.args.covers.now c.loop-cover.cover-index c.cover-item.result c.args.entry.now c.loop-cover.texts.items c.loop-cover-test.true c.cover-item.is c.loop-cover.invariant (c.has.ensures.has w.if-has.true))
  | else-has w ↦
      rw w.texts-is
      (marker-same c.args.covers.now c.loop-cover.cover-index c.cover-item.result c.args.entry.now c.loop-cover.texts.items c.loop-cover-test.true c.cover-item.is c.loop-cover.invariant (c.has.ensures.lacks w.if-has.false))
]

pub returns : goal.returns
returns c =
    rw c.from_vec.ensures (markers-whole c.args.covers.now c.loop-cover.cover-index c.args.entry.now c.loop-cover.texts.items c.loop-cover-test.false c.loop-cover.invariant)
