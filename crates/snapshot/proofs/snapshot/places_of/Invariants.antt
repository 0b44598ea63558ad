use Rattle.std.proofs.Common.{◌≡◌, [], drop, take}
use Rattle.snapshot.specs.Tied.Places.{ArePlaces, repeated_from}
use Rattle.snapshot.proofs.snapshot.places_of.Given as goal

abbrev pub invariant-loop-place : goal.invariant-loop-place
invariant-loop-place l = record {
  distinct : repeated_from (take l.place l.packages) (drop l.place l.packages) ≡ repeated_from [] l.packages;
  places : ArePlaces l.places (take l.place l.packages);
}
