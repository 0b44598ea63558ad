use Rattle.problems.specs.Problem.{releases_on}
use Rattle.resolve.proofs.Preferring.{IsPreferring}
use Rattle.resolve.proofs.candidates.candidates.Given as goal

abbrev pub invariant-loop-place : goal.invariant-loop-place
invariant-loop-place l = IsPreferring (releases_on l.problem l.name) l.kept l.places.items l.place
