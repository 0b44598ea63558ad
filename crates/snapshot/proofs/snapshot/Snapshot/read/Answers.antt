use Rattle.snapshot.specs.Tied.Places.{ArePlaces}
use Rattle.snapshot.specs.Packages.{json_of, packages_of}
use Rattle.snapshot.proofs.SeveralSteps.{both}
use Rattle.snapshot.proofs.ReleasesFall.{packages-fall}
use Rattle.snapshot.proofs.snapshot.Snapshot.read.Goals as goal

pub invariant_of-result : goal.invariant_of-result
invariant_of-result c =
    let read = both (json_of c.args.bytes.now) packages_of c.in_ok-read.read c.in_ok-read.ensures in
    let places : ArePlaces c.in_ok-places.places c.in_ok-read.read.packages = rw c.as_slice.ensures at c.in_ok-places.ensures.places in
    record { places = places; fall = packages-fall read.first c.in_ok-read.read read.then }
