use Rattle.exports.proofs.JointEntries.{once-more, once-same, once-whole}
use Rattle.exports.proofs.joint_entries.each_once.Goals.{then-not-is_among+in_ok-push, else-not-is_among}
use Rattle.exports.proofs.joint_entries.each_once.Goals as goal

pub loop-entry-preserved : goal.loop-entry-preserved
loop-entry-preserved c = elim c.if-not-is_among.branch [
  | then-not-is_among+in_ok-push w ↦
      rw (w.once-is, w.in_ok-push.ensures)
      (once-more c.args.entries.now c.loop-entry.entry-index c.entry-item.result c.loop-entry.once.items c.loop-entry-test.true c.entry-item.is c.loop-entry.invariant
      (λ there. c.is_among.ensures.lacking w.if-not-is_among.true (rw c.as_slice.ensures.value there)))
  | else-not-is_among w ↦
      rw w.once-is
      (once-same c.args.entries.now c.loop-entry.entry-index c.entry-item.result c.loop-entry.once.items c.loop-entry-test.true c.entry-item.is c.loop-entry.invariant
      (rw c.as_slice.ensures.value at (c.is_among.ensures.there w.if-not-is_among.false)))
]

pub returns-clause-members : goal.returns-clause-members
returns-clause-members c =
    rw c.from_vec.ensures (once-whole c.args.entries.now c.loop-entry.entry-index c.loop-entry.once.items c.loop-entry-test.false c.loop-entry.invariant).1
