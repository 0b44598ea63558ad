use Rattle.std.proofs.Common.{◌≡◌, drop}
use Rattle.refutations.specs.Tied.Cases.{completes}
use Rattle.refutations.proofs.grounds.completion.first_completed.Given as goal

abbrev pub invariant-loop-place : goal.invariant-loop-place
invariant-loop-place l = completes l.earlier l.conflict l.choice ≡ completes (drop l.place l.earlier) l.conflict l.choice
