use Rattle.std.proofs.Common.{◌≡◌, map, take}
use Rattle.problems.specs.Admission.{admits_where}
use Rattle.problems.proofs.admission.admitted.Given as goal

abbrev pub invariant-loop-release : goal.invariant-loop-release
invariant-loop-release l = l.admits.items ≡ map (admits_where l.environment l.wanted l.pre l.yanked) (take l.release-index l.releases)
