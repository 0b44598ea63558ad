use Rattle.std.proofs.Common.{◌≡◌, drop}
use Rattle.set_refutations.specs.Tied.SetCases.{clash_onward}
use Rattle.set_refutations.proofs.set_grounds.clash.clashing.Given as goal

abbrev pub invariant-loop-place : goal.invariant-loop-place
invariant-loop-place l = clash_onward l.problem l.conflict ≡ clash_onward l.problem (drop l.place l.conflict)
