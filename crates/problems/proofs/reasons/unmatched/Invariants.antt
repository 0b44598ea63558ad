use Rattle.std.proofs.Common.{◌≡◌, take, true}
use Rattle.pep440.specs.Matching.{matches}
use Rattle.problems.proofs.reasons.unmatched.Given as goal

abbrev pub invariant-loop-place : goal.invariant-loop-place
invariant-loop-place l = matches (take l.place l.clauses) l.version ≡ true
