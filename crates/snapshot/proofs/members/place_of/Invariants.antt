use Rattle.std.proofs.Common.{◌≡◌, map}
use Rattle.snapshot.specs.Tied.Keys.{place_of}
use Rattle.snapshot.proofs.KeyFacts.{from}
use Rattle.snapshot.proofs.members.place_of.Given as goal

abbrev pub invariant-loop-place : goal.invariant-loop-place
invariant-loop-place l = from (λ other. other.now) l.keys l.key l.place ≡ place_of l.key (map (λ other. other.now) l.keys)
