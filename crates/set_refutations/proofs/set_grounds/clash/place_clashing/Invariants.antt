use Rattle.std.proofs.Common.{◌≡◌, drop}
use Rattle.std.specs.List.{list_any}
use Rattle.set_refutations.specs.Tied.SetCases.{terms_clash}
use Rattle.set_refutations.proofs.set_grounds.clash.place_clashing.Given as goal

abbrev pub invariant-loop-place : goal.invariant-loop-place
invariant-loop-place l = list_any (terms_clash l.problem l.one) (drop l.from l.conflict) ≡ list_any (terms_clash l.problem l.one) (drop l.place l.conflict)
