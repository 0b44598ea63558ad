use Rattle.std.proofs.Common.{◌≡◌, drop}
use Rattle.std.specs.List.{list_any}
use Rattle.set_refutations.specs.Tied.SetCases.{each_completes}
use Rattle.set_refutations.proofs.set_grounds.completion.each_version_completes.Given as goal

abbrev pub invariant-loop-place : goal.invariant-loop-place
invariant-loop-place l = list_any (each_completes l.earlier l.conflict) l.conflict ≡ list_any (each_completes l.earlier l.conflict) (drop l.place l.conflict)
