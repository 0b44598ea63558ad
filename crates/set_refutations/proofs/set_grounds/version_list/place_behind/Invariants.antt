use Rattle.std.proofs.Common.{◌≡◌, drop}
use Rattle.set_refutations.specs.Tied.SetCases.{is_listed}
use Rattle.set_refutations.proofs.set_grounds.version_list.place_behind.Given as goal

abbrev pub invariant-loop-place : goal.invariant-loop-place
invariant-loop-place l = is_listed (drop l.from l.versions) l.version ≡ is_listed (drop l.place l.versions) l.version
