use Rattle.std.proofs.Common.{◌≡◌, map, take}
use Rattle.problems.specs.Problem.{releases_on}
use Rattle.resolve.specs.Tied.Places.{version_at}
use Rattle.refute.proofs.set_refutation.versions_at.Given as goal

abbrev pub invariant-loop-place : goal.invariant-loop-place
invariant-loop-place l = l.versions.items ≡ map (λ place. version_at (releases_on l.problem l.name) place) (take l.place-index l.places)
