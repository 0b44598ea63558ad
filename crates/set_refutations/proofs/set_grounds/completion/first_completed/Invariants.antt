use Rattle.std.proofs.Common.{◌≡◌, drop}
use Rattle.set_refutations.specs.Tied.SetCases.{completes}
use Rattle.set_refutations.proofs.set_grounds.completion.first_completed.Given as goal

abbrev pub invariant-loop-place : goal.invariant-loop-place
invariant-loop-place l = completes l.earlier l.conflict l.node l.version ≡ completes (drop l.place l.earlier) l.conflict l.node l.version
