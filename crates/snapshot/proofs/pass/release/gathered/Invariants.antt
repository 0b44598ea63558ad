use Rattle.snapshot.proofs.ReleaseMeaning.{GatheredSoFar}
use Rattle.snapshot.proofs.pass.release.gathered.Given as goal

abbrev pub invariant-loop-place : goal.invariant-loop-place
invariant-loop-place l = GatheredSoFar l.name l.values l.place l.gathering
