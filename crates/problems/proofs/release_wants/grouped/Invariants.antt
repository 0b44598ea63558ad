use Rattle.std.proofs.Common.{◌≡◌, map, take}
use Rattle.snapshot.specs.Release.{Release}
use Rattle.problems.proofs.release_wants.grouped.Given as goal

abbrev pub invariant-loop-release : goal.invariant-loop-release
invariant-loop-release l = l.groups.items ≡ map (λ (release : Release). record { environment = l.environment; dependencies = release.dependencies }) (take l.release-index l.releases)
