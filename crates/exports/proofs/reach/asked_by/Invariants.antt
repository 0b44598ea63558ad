use Rattle.std.proofs.Common.{take}
use Rattle.exports.specs.Tied.Reach.{AreAskedTo}
use Rattle.exports.proofs.reach.asked_by.Given as goal

abbrev pub invariant-loop-place : goal.invariant-loop-place
invariant-loop-place l = AreAskedTo l.lines l.snapshot l.asked (take l.place l.asked)
